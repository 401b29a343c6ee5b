use Rattle.std.proofs.Common.{ℕ, sym, subst, List, [], ◌∷◌, ◌++◌}
use Rattle.provider_post.specs.Item.{IsReceiveEntry}
use Rattle.provider_post.proofs.Entries.{receive_entry}
use Rattle.provider_post.proofs.recv.entry_of.Goals as goal

pub returns : goal.returns
returns c =
    let rest : List ℕ = 0 ∷ 0 ∷ 0 ∷ 0 ∷ 0 ∷ 0 ∷ 0 ∷ 0 ∷ 0 ∷ 0 ∷ 0 ∷ 0 ∷ 0 ∷ 0 ∷ 0 ∷ 0 ∷ [] in
    subst (λ (words : List ℕ). IsReceiveEntry c.args.sges.now c.args.stride (record { blocks = 1; words = words ++ rest })) (sym c.copy_from_slice.ensures.after)
    (receive_entry c.args.sges.now c.args.stride c.encode_recv.new.to rest c.encode_recv.array_long c.requires.few c.encode_recv.ensures.spelled c.encode_recv.ensures.clear)
