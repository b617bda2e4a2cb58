use Rattle.std.proofs.Common.{sym, ◌∙◌, refl}
use Rattle.std.proofs.lemmas.Bool.{false≢true}
use Rattle.std.proofs.lemmas.Result.{err_from_is_err_and}
use Rattle.dn_name.proofs.CountedLemmas.{behind_counts, counted_found, counted_other, counted_within}
use Rattle.dn_name.proofs.name.Name.read_count.Goals as goal

pub returns-in_err-check_counts-in-Some-read_plain-clause-exact : goal.returns-in_err-check_counts-in-Some-read_plain-clause-exact
returns-in_err-check_counts-in-Some-read_plain-clause-exact c =
    let p = err_from_is_err_and c.from_residual.result c.from_residual.ensures.1 in
    let here = sym c.split_at.ensures.back ∙ c.in-Some.ensures.found in
    rw p.1 (counted_other c.args.bytes.now c.args.at _ _ _ here _ c.in-Some-read_plain.ensures.again _ _ refl
    (λ counts. false≢true (c.in_err-check_counts-in-Some-read_plain.ensures.exact.1 counts)))

pub returns-in_ok-check_counts-in-Some-read_plain-clause-exact : goal.returns-in_ok-check_counts-in-Some-read_plain-clause-exact
returns-in_ok-check_counts-in-Some-read_plain-clause-exact c =
    let here = sym c.split_at.ensures.back ∙ c.in-Some.ensures.found in
    let checked = c.in_ok-check_counts-in-Some-read_plain.ensures in
    counted_found c.args.bytes.now c.args.at _ _ _ here _ c.in-Some-read_plain.ensures.again _ _ refl
    _ checked.named c.in-Some-read_plain.ensures.spelled (checked.exact.0 refl)

pub returns-in_ok-check_counts-in-Some-read_plain-clause-within : goal.returns-in_ok-check_counts-in-Some-read_plain-clause-within
returns-in_ok-check_counts-in-Some-read_plain-clause-within c =
    let here = sym c.split_at.ensures.back ∙ c.in-Some.ensures.found in
    counted_within c.args.bytes.now c.args.at _ _ _ here _ c.in-Some-read_plain.ensures.again _ _ refl
    _ c.in_ok-check_counts-in-Some-read_plain.ensures.named c.in-Some-read_plain.ensures.spelled c.requires

pub fault_of_plain-requires-clause-none : goal.fault_of_plain-requires-clause-none
fault_of_plain-requires-clause-none c = λ name rest named stands.
    let there = sym c.split_at.ensures.back ∙ c.in-Some.ensures.found in
    let spelled = sym (behind_counts c.args.bytes.now c.args.at c.in-Some.len c.in-Some.count c.in-Some.rest.now there) ∙ stands in
    let none = c.in-None-read_plain.ensures.again name rest named spelled in
    absurd (cc)
