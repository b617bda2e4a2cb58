use Rattle.std.proofs.Common.{◌≡◌, [], drop, map}
use Rattle.dn_text.specs.LongAddresses.{groups_from}
use Rattle.dn_text.proofs.long_address.all_groups.Given as goal

abbrev pub invariant-loop-word : goal.invariant-loop-word
invariant-loop-word l = groups_from l.out (map (λ word. word.now) (drop l.word-index l.words)) ≡ groups_from [] (map (λ word. word.now) l.words)
