-- The layouts: which fields each has, where they stand, and what is reserved.
use Rattle.std.specs.Prelude.{ℕ, Bool, true, false, ◌==◌, List, [], ◌∷◌, filter}
use Rattle.std.specs.List.{list_all}
use Rattle.prm_fields.specs.declared.layout.LayoutName.{LayoutName}
use Rattle.prm_fields.specs.declared.layout.LayoutName.TheVariants.{Cqe, CqeErr, EqeCq, EqeError, Ctrl, Raddr, Atomic, DataUnit, Inline as InlineLayout, Next as NextLayout, CmdEntry, BlockTail, CqContext, MkeyContext, EqBlock, SrqBlock, QpBlock}
use Rattle.prm_fields.specs.declared.layout.FieldName.{FieldName}
use Rattle.prm_fields.specs.declared.layout.FieldName.TheVariants.{Reserved, FlagsRqpn, SrqnUidx, ImmInvalPkey, ByteCnt, Timestamp, Sop, Qpn, WqeCounter, Signature, Opcode, Format, Solicited, Owner, VendorSyndrome, Syndrome, TypeByte, SubType, Cqn, Opmod, Index, Ds, Flags, Imm, Addr, Rkey, SwapOrAdd, Compare, ByteCount, Lkey, Inline, NextWqeIndex, InLen, InPtr, InputHi, InputLo, OutputHi, OutputLo, OutPtr, OutLen, Token, StatusOwn, Next, Number, CtrlSignature, CqeSz, LogCqSize, UarPage, CEqn, DbrAddr, A, Rw, Rr, Lw, Lr, Mkey7To0, Pd, StartAddr, Len, Log, Uar, Segments, SendCq, RecvCq, SendLog, RecvLog, Srq}
use Rattle.prm_fields.specs.declared.layout.FieldRow.{FieldRow}
use Rattle.prm_fields.specs.Bits.{field_value}

abbrev pub row_of : FieldName → ℕ → ℕ → FieldRow
row_of name bit width = record { name = name; bit = bit; width = width }

-- the rows of a layout in order, without gaps
abbrev pub rows : LayoutName → List FieldRow
rows Cqe =
    row_of Reserved 0 192
    ∷ row_of FlagsRqpn 192 32
    ∷ row_of Reserved 224 32
    ∷ row_of SrqnUidx 256 32
    ∷ row_of ImmInvalPkey 288 32
    ∷ row_of Reserved 320 32
    ∷ row_of ByteCnt 352 32
    ∷ row_of Timestamp 384 64
    ∷ row_of Sop 448 8
    ∷ row_of Qpn 456 24
    ∷ row_of WqeCounter 480 16
    ∷ row_of Signature 496 8
    ∷ row_of Opcode 504 4
    ∷ row_of Format 508 2
    ∷ row_of Solicited 510 1
    ∷ row_of Owner 511 1
    ∷ []
rows CqeErr =
    row_of Reserved 0 256
    ∷ row_of SrqnUidx 256 32
    ∷ row_of Reserved 288 144
    ∷ row_of VendorSyndrome 432 8
    ∷ row_of Syndrome 440 8
    ∷ row_of Sop 448 8
    ∷ row_of Qpn 456 24
    ∷ row_of WqeCounter 480 16
    ∷ row_of Signature 496 8
    ∷ row_of Opcode 504 4
    ∷ row_of Format 508 2
    ∷ row_of Solicited 510 1
    ∷ row_of Owner 511 1
    ∷ []
rows EqeCq =
    row_of Reserved 0 8
    ∷ row_of TypeByte 8 8
    ∷ row_of Reserved 16 8
    ∷ row_of SubType 24 8
    ∷ row_of Reserved 32 416
    ∷ row_of Cqn 448 32
    ∷ row_of Reserved 480 16
    ∷ row_of Signature 496 8
    ∷ row_of Reserved 504 7
    ∷ row_of Owner 511 1
    ∷ []
rows EqeError =
    row_of Reserved 0 8
    ∷ row_of TypeByte 8 8
    ∷ row_of Reserved 16 8
    ∷ row_of SubType 24 8
    ∷ row_of Reserved 32 224
    ∷ row_of Cqn 256 32
    ∷ row_of Reserved 288 208
    ∷ row_of Signature 496 8
    ∷ row_of Reserved 504 7
    ∷ row_of Owner 511 1
    ∷ []
rows Ctrl =
    row_of Opmod 0 8
    ∷ row_of Index 8 16
    ∷ row_of Opcode 24 8
    ∷ row_of Qpn 32 24
    ∷ row_of Ds 56 8
    ∷ row_of Signature 64 8
    ∷ row_of Reserved 72 16
    ∷ row_of Flags 88 8
    ∷ row_of Imm 96 32
    ∷ []
rows Raddr =
    row_of Addr 0 64
    ∷ row_of Rkey 64 32
    ∷ row_of Reserved 96 32
    ∷ []
rows Atomic =
    row_of SwapOrAdd 0 64
    ∷ row_of Compare 64 64
    ∷ []
rows DataUnit =
    row_of ByteCount 0 32
    ∷ row_of Lkey 32 32
    ∷ row_of Addr 64 64
    ∷ []
rows InlineLayout =
    row_of Inline 0 1
    ∷ row_of ByteCount 1 31
    ∷ []
rows NextLayout =
    row_of Reserved 0 16
    ∷ row_of NextWqeIndex 16 16
    ∷ row_of Reserved 32 96
    ∷ []
rows CmdEntry =
    row_of TypeByte 0 8
    ∷ row_of Reserved 8 24
    ∷ row_of InLen 32 32
    ∷ row_of InPtr 64 64
    ∷ row_of InputHi 128 64
    ∷ row_of InputLo 192 64
    ∷ row_of OutputHi 256 64
    ∷ row_of OutputLo 320 64
    ∷ row_of OutPtr 384 64
    ∷ row_of OutLen 448 32
    ∷ row_of Token 480 8
    ∷ row_of Signature 488 8
    ∷ row_of Reserved 496 8
    ∷ row_of StatusOwn 504 8
    ∷ []
rows BlockTail =
    row_of Reserved 0 384
    ∷ row_of Next 384 64
    ∷ row_of Number 448 32
    ∷ row_of Reserved 480 8
    ∷ row_of Token 488 8
    ∷ row_of CtrlSignature 496 8
    ∷ row_of Signature 504 8
    ∷ []
rows CqContext =
    row_of Reserved 0 8
    ∷ row_of CqeSz 8 3
    ∷ row_of Reserved 11 88
    ∷ row_of LogCqSize 99 5
    ∷ row_of UarPage 104 24
    ∷ row_of Reserved 128 56
    ∷ row_of CEqn 184 8
    ∷ row_of Reserved 192 256
    ∷ row_of DbrAddr 448 64
    ∷ []
rows MkeyContext =
    row_of Reserved 0 17
    ∷ row_of A 17 1
    ∷ row_of Rw 18 1
    ∷ row_of Rr 19 1
    ∷ row_of Lw 20 1
    ∷ row_of Lr 21 1
    ∷ row_of Reserved 22 34
    ∷ row_of Mkey7To0 56 8
    ∷ row_of Reserved 64 40
    ∷ row_of Pd 104 24
    ∷ row_of StartAddr 128 64
    ∷ row_of Len 192 64
    ∷ row_of Reserved 256 256
    ∷ []
rows EqBlock =
    row_of Log 0 32
    ∷ row_of Uar 32 32
    ∷ row_of Addr 64 64
    ∷ row_of Reserved 128 128
    ∷ []
rows SrqBlock =
    row_of Log 0 32
    ∷ row_of Segments 32 32
    ∷ row_of Pd 64 32
    ∷ row_of Reserved 96 32
    ∷ row_of Addr 128 64
    ∷ row_of Reserved 192 64
    ∷ []
rows QpBlock =
    row_of Pd 0 32
    ∷ row_of SendCq 32 32
    ∷ row_of RecvCq 64 32
    ∷ row_of SendLog 96 32
    ∷ row_of RecvLog 128 32
    ∷ row_of Segments 160 32
    ∷ row_of Srq 192 32
    ∷ row_of Uar 224 32
    ∷ row_of Addr 256 64
    ∷ row_of Reserved 320 192
    ∷ []

-- how many bytes a layout has
abbrev pub layout_length : LayoutName → ℕ
layout_length Cqe = 64
layout_length CqeErr = 64
layout_length EqeCq = 64
layout_length EqeError = 64
layout_length Ctrl = 16
layout_length Raddr = 16
layout_length Atomic = 16
layout_length DataUnit = 16
layout_length InlineLayout = 4
layout_length NextLayout = 16
layout_length CmdEntry = 64
layout_length BlockTail = 64
layout_length CqContext = 64
layout_length MkeyContext = 64
layout_length EqBlock = 32
layout_length SrqBlock = 32
layout_length QpBlock = 64

abbrev pub is_reserved : FieldRow → Bool
is_reserved r = is_reserved_name r.name
  where
    is_reserved_name : FieldName → Bool
    is_reserved_name Reserved = true
    is_reserved_name _ = false

-- whether the reserved bits of a layout are all 0
abbrev pub is_reserved_clear : LayoutName → List ℕ → Bool
is_reserved_clear layout bytes = list_all (λ r. field_value bytes r.bit r.width == 0) (filter is_reserved (rows layout))
