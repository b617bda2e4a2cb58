use Rattle.std.proofs.Common.{ℕ, ◌+◌, ◌<◌, List, arith, subst, sym, get_or, get_or-drop, ◌∙◌}
use Rattle.dn_rdata.specs.Laid.{Lies}
use Rattle.dn_rdata.specs.declared.parts.Part.TheVariants.{Bytes, OneText}
use Rattle.dn_message.proofs.GrowingLemmas.{bytes_of_text, grows_alike, text_of}
use Rattle.dn_message.proofs.rdata.add_text.Goals as goal

pub overflow_add-from : goal.overflow_add-from
overflow_add-from c =
    let first = sym c.split_at.ensures.back ∙ c.in-Some.ensures.cases.0 in
    let small : c.in-Some.field-0-0.now < 256 =
    subst (λ xs. get_or xs 0 0 < 256) first (subst (λ n. n < 256) (sym (get_or-drop c.args.at c.args.bytes.now 0 0)) (c.type_inv.bytes (c.args.at + 0)).fits) in
    omega arith

pub returns-in-Some-clause-grows : goal.returns-in-Some-clause-grows
returns-in-Some-clause-grows c = λ end.
    let message = c.args.bytes.now in
    let at = c.args.at in
    let first = sym c.split_at.ensures.back ∙ c.in-Some.ensures.cases.0 in
    let count = 1 + c.from.result in
    grows_alike (λ (found : List ℕ × ℕ). Lies message at end (Bytes count) found.0 found.1) (λ (found : List ℕ × ℕ). Lies message at end OneText found.0 found.1)
    (text_of message at end count _ _ first (omega arith)) (bytes_of_text message at end count _ _ first (omega arith)) c.args.out.now c.add_bytes.new.out c.add_bytes.result (c.add_bytes.ensures.grows end)
