-- Numbers that are written one behind another.
use Rattle.std.proofs.Common.{◌≡◌, ℕ, List, ◌++◌, ap, ◌∙◌, append_assoc}
use Rattle.dn_property.specs.declared.stored.Head.{Head}
use Rattle.dn_property.specs.Numbers.{four_little}
use Rattle.dn_property.specs.Stored.{head_bytes}

-- what was written behind a piece stands behind what was there before it
behind : (old piece mid back new : List ℕ) → mid ≡ old ++ piece → new ≡ mid ++ back → new ≡ old ++ (piece ++ back)
behind old piece mid back new at after = after ∙ ap (λ xs. xs ++ back) at ∙ append_assoc old piece back

-- the five numbers of a head are its bytes
module _ (old first second third fourth new : List ℕ) (head : Head) where
  pub head_written : first ≡ old ++ four_little head.data_length → second ≡ first ++ four_little head.name_length → third ≡ second ++ four_little head.flag
      → fourth ≡ third ++ four_little head.version → new ≡ fourth ++ four_little head.id → new ≡ old ++ head_bytes head
  head_written a b c d e =
      behind old (four_little head.data_length) first (four_little head.name_length ++ (four_little head.flag ++ (four_little head.version ++ four_little head.id))) new a
      (behind first (four_little head.name_length) second (four_little head.flag ++ (four_little head.version ++ four_little head.id)) new b
      (behind second (four_little head.flag) third (four_little head.version ++ four_little head.id) new c
      (behind third (four_little head.version) fourth (four_little head.id) new d e)))
