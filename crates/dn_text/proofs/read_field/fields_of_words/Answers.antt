use Rattle.std.proofs.Common.{◌<◌, length, drop, map, arith}
use Rattle.std.proofs.lemmas.Bool.Decides.{nat_tests}
use Rattle.std.proofs.lemmas.List.{length-drop, length-map}
use Rattle.dn_text.proofs.FieldsLemmas.{no_field, no_word}
use Rattle.dn_text.proofs.read_field.fields_of_words.Goals as goal

pub returns-in_default : goal.returns-in_default
returns-in_default c =
    let left = drop c.loop-word.word-index c.args.words.now in
    no_field c.loop-word.out c.loop-word.left.now (map (λ word. word.now) left) _ c.in_default.ensures.cases
    (omega (arith, length-map left (λ word. word.now), length-drop c.loop-word.word-index c.args.words.now, c.loop-word-test.true)) c.loop-word.invariant

pub returns-else-is_empty : goal.returns-else-is_empty
returns-else-is_empty c =
    let left = drop c.loop-word.word-index c.args.words.now in
    let some : 0 < length c.loop-word.left.now = grind (arith, nat_tests, c.is_empty.ensures, c.if-is_empty.false) in
    no_word c.loop-word.out c.loop-word.left.now (map (λ word. word.now) left) _ some
    (omega (arith, length-map left (λ word. word.now), length-drop c.loop-word.word-index c.args.words.now, c.loop-word-test.false)) c.loop-word.invariant
