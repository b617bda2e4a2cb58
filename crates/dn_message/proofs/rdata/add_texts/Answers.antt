use Rattle.std.proofs.Common.{ℕ, List, refl}
use Rattle.std.proofs.lemmas.Bool.{false≢true}
use Rattle.dn_rdata.specs.Laid.{Lies}
use Rattle.dn_rdata.specs.declared.parts.Part.TheVariants.{Rest, Texts}
use Rattle.dn_message.proofs.GrowingLemmas.{between, grows_alike, no_texts, rest_of_texts, texts_of}
use Rattle.dn_message.proofs.rdata.add_texts.Goals as goal

pub returns-in-Ok-clause-grows : goal.returns-in-Ok-clause-grows
returns-in-Ok-clause-grows c =
    let message = c.args.bytes.now in
    let at = c.args.at in
    let end = c.args.end in
    let span = c.in-Some.rest.now in
    let stands = between message at end c.split_at.result.0.now span c.split_at.ensures.front c.split_at.ensures.front_len c.in-Some.ensures.cases.2 c.in-Some.ensures.cases.0 in
    grows_alike (λ (found : List ℕ × ℕ). Lies message at end Rest found.0 found.1) (λ (found : List ℕ × ℕ). Lies message at end Texts found.0 found.1)
    (texts_of message at end span stands.0 stands.1 (c.in-Ok.ensures.exact.0 refl)) (rest_of_texts message at end span stands.0 stands.1)
    c.args.out.now c.add_rest.new.out c.add_rest.result c.add_rest.ensures.grows

pub returns-in-Err-clause-grows : goal.returns-in-Err-clause-grows
returns-in-Err-clause-grows c =
    let message = c.args.bytes.now in
    let at = c.args.at in
    let end = c.args.end in
    let span = c.in-Some.rest.now in
    let stands = between message at end c.split_at.result.0.now span c.split_at.ensures.front c.split_at.ensures.front_len c.in-Some.ensures.cases.2 c.in-Some.ensures.cases.0 in
    no_texts message at end span stands.0 stands.1 (λ is. false≢true (c.in-Err.ensures.exact.1 is))
