use Rattle.std.proofs.lemmas.Result.{err_from_is_err_and}
use Rattle.dn_message.proofs.header.read_query_header.Goals as goal

pub returns-in_err-id-clause-exact : goal.returns-in_err-id-clause-exact
returns-in_err-id-clause-exact c =
    let p = err_from_is_err_and c.from_residual.result c.from_residual.ensures.1 in
    rw p.1 (λ other is. c.in_err-id.ensures.exact _ is.number_stands)

pub returns-in_err-flags-clause-exact : goal.returns-in_err-flags-clause-exact
returns-in_err-flags-clause-exact c =
    let p = err_from_is_err_and c.from_residual-in_err-flags.result c.from_residual-in_err-flags.ensures.1 in
    rw p.1 (λ other is. c.in_err-flags.ensures.exact _ is.flags_stand)

pub returns-in_err-additional-clause-exact : goal.returns-in_err-additional-clause-exact
returns-in_err-additional-clause-exact c =
    let p = err_from_is_err_and c.from_residual-in_err-additional.result c.from_residual-in_err-additional.ensures.1 in
    rw p.1 (λ other is. c.in_err-additional.ensures.exact _ is.additional_stand)

pub returns-in_err-check_query_counts-clause-exact : goal.returns-in_err-check_query_counts-clause-exact
returns-in_err-check_query_counts-clause-exact c =
    let p = err_from_is_err_and c.from_residual-in_err-check_query_counts.result c.from_residual-in_err-check_query_counts.ensures.1 in
    rw p.1 (λ other is. c.in_err-check_query_counts.ensures.other (is.questions_stand, is.answers_stand, is.authorities_stand))

pub returns-clause-exact : goal.returns-clause-exact
returns-clause-exact c =
    let number = c.in_ok-id.ensures.exact in
    let flags = c.in_ok-flags.ensures.exact in
    let counts = c.in_ok-check_query_counts.ensures.stand in
    let additional = c.in_ok-additional.ensures.exact in (
      record {
        number_stands = number.0;
        flags_stand = flags.0;
        questions_stand = counts.0;
        answers_stand = counts.1;
        authorities_stand = counts.2;
        additional_stand = additional.0;
      },
      λ other is.
          let n = number.1 other.id is.number_stands in
          let f = flags.1 other.flags is.flags_stand in
          let a = additional.1 other.additional is.additional_stand in
          λ i. record { id = n i; flags = f i; additional = a i },
    )
