-- Every layout is among those that a name is looked for in.
use Rattle.std.proofs.Common.{◌≡◌, length, Option, None, Some, IfNone, MatchOption, arith, refl}
use Rattle.std.specs.List.{AllWithin}
use Rattle.prm_fields.specs.declared.layout.LayoutName.{LayoutName}
use Rattle.prm_fields.specs.declared.layout.LayoutName.TheVariants.{Cqe, CqeErr, EqeCq, EqeError, Ctrl, Raddr, Atomic, DataUnit, Inline, Next, CmdEntry, BlockTail, CqContext, MkeyContext, EqBlock, SrqBlock, QpBlock}
use Rattle.mlx5_cli.specs.declared.command.TheConstants.{LAYOUTS}

-- what holds of all that are listed holds of every layout
of_all : (P : LayoutName → Type 0) → AllWithin P LAYOUTS 0 (length LAYOUTS) → (layout : LayoutName) → P layout
of_all P all Cqe = all 0 Cqe (omega arith) (omega arith)
of_all P all CqeErr = all 1 CqeErr (omega arith) (omega arith)
of_all P all EqeCq = all 2 EqeCq (omega arith) (omega arith)
of_all P all EqeError = all 3 EqeError (omega arith) (omega arith)
of_all P all Ctrl = all 4 Ctrl (omega arith) (omega arith)
of_all P all Raddr = all 5 Raddr (omega arith) (omega arith)
of_all P all Atomic = all 6 Atomic (omega arith) (omega arith)
of_all P all DataUnit = all 7 DataUnit (omega arith) (omega arith)
of_all P all Inline = all 8 Inline (omega arith) (omega arith)
of_all P all Next = all 9 Next (omega arith) (omega arith)
of_all P all CmdEntry = all 10 CmdEntry (omega arith) (omega arith)
of_all P all BlockTail = all 11 BlockTail (omega arith) (omega arith)
of_all P all CqContext = all 12 CqContext (omega arith) (omega arith)
of_all P all MkeyContext = all 13 MkeyContext (omega arith) (omega arith)
of_all P all EqBlock = all 14 EqBlock (omega arith) (omega arith)
of_all P all SrqBlock = all 15 SrqBlock (omega arith) (omega arith)
of_all P all QpBlock = all 16 QpBlock (omega arith) (omega arith)

-- nothing found among those listed, so nothing at all
pub none_of_all : {A B : Type 0} (P : LayoutName → Type 0) (Q : A → Type 0) (found : Option A) (answer : Option B) → MatchOption found (AllWithin P LAYOUTS 0 (length LAYOUTS)) Q
    → (answer ≡ None → found ≡ None) → IfNone answer ((layout : LayoutName) → P layout)
none_of_all P Q None None none same = of_all P none
none_of_all P Q (Some x) None none same = absurd (let e = same refl in cc)
none_of_all P Q found (Some y) none same = tt
