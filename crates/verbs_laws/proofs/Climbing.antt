-- Numbers that ascend.
use Rattle.std.proofs.Common.{ℕ, ◌+◌, ◌<◌, ◌≤◌, List, [], ◌∷◌, ◌++◌, length, arith}
use Rattle.verbs_rules.specs.Sane.{Climbs}

pub climbs_length : (least most : ℕ) (ns : List ℕ) → Climbs least ns most → least + length ns ≤ most
climbs_length least most [] h = omega (arith, h)
climbs_length least most (n ∷ ns) h = omega (arith, h.0, climbs_length n most ns h.1)

pub climbs_more : (least most higher : ℕ) (ns : List ℕ) → most ≤ higher → Climbs least ns most → Climbs least ns higher
climbs_more least most higher [] le h = omega (arith, le, h)
climbs_more least most higher (n ∷ ns) le h = (h.0, climbs_more n most higher ns le h.1)

pub climbs_push : (least most next : ℕ) (ns : List ℕ) → most < next → Climbs least ns most → Climbs least (ns ++ next ∷ []) next
climbs_push least most next [] lt h = (omega (arith, lt, h), omega arith)
climbs_push least most next (n ∷ ns) lt h = (h.0, climbs_push n most next ns lt h.1)
