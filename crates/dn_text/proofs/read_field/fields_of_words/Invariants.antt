use Rattle.std.proofs.Common.{◌≡◌, [], drop, map}
use Rattle.dn_text.specs.Fields.{fields_from}
use Rattle.dn_text.proofs.read_field.fields_of_words.Given as goal

abbrev pub invariant-loop-word : goal.invariant-loop-word
invariant-loop-word l = fields_from l.out l.left (map (λ word. word.now) (drop l.word-index l.words)) ≡ fields_from [] l.fields (map (λ word. word.now) l.words)
