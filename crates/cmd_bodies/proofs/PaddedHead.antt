-- The first 16 bytes, filled with 0.
use Rattle.std.proofs.Common.{◌≡◌, ℕ, ◌+◌, ◌-◌, ◌/◌, ◌%◌, ◌^◌, ◌<◌, ◌≤◌, List, ◌++◌, length, take, drop, min, slice_index, sym, ap, ◌∙◌, ⊎_elim, arith}
use Rattle.std.proofs.lemmas.Bool.{cases_lt}
use Rattle.std.proofs.lemmas.List.{length-take-le, get_or_append_left, get_or-append_right, get_or-take, get_or-drop, get_or_past}
use Rattle.prm_fields.proofs.Parts.{field_value-moved}
use Rattle.cmd_bodies.specs.Head.{SameHead}

module _ (bytes zeros : List ℕ) (held : ℕ) (is_held : held ≡ min (length bytes) 16) (clear : (k : ℕ) → slice_index zeros k ≡ 0) where
  padded_byte : (k : ℕ) → k < 16 → slice_index (take held bytes ++ drop held zeros) k ≡ slice_index bytes k
  padded_byte k low =
      let inside : held ≤ length bytes = omega (arith, is_held) in
      let long = length-take-le held bytes inside in
      ⊎_elim
      (λ there.
      let early : k < length (take held bytes) = omega (arith, long) in
      get_or_append_left (take held bytes) (drop held zeros) 0 k early ∙ get_or-take held bytes k 0 there)
      (λ past.
      let missing : length bytes ≤ k = omega (arith, is_held) in
      get_or-append_right (take held bytes) (drop held zeros) held k 0 long past
      ∙ get_or-drop held zeros (k - held) 0
      ∙ clear (held + (k - held))
      ∙ sym (get_or_past bytes k 0 missing))
      (cases_lt k held)

  pub padded_head : SameHead (take held bytes ++ drop held zeros) bytes
  padded_head first width inside =
      field_value-moved (take held bytes ++ drop held zeros) bytes first first width
      (λ k low. ap (λ byte. byte / 2 ^ (7 - (first + k) % 8) % 2) (padded_byte ((first + k) / 8) (omega arith)))
