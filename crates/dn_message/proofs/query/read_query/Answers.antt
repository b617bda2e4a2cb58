use Rattle.std.proofs.Common.{refl, sym}
use Rattle.std.proofs.lemmas.Result.{err_from_is_err_and}
use Rattle.dn_message.proofs.QueryLemmas.{no_query_kind, no_query_seen, query_found}
use Rattle.dn_message.proofs.QueryOfLemmas.{query_is, value_is}
use Rattle.dn_message.proofs.query.read_query.Goals as goal

pub returns-in_err-header-clause-exact : goal.returns-in_err-header-clause-exact
returns-in_err-header-clause-exact c =
    let p = err_from_is_err_and c.from_residual.result c.from_residual.ensures.1 in
    rw p.1 (λ query is. c.in_err-header.ensures.exact _ is.header)

pub returns-in_err-name-clause-exact : goal.returns-in_err-name-clause-exact
returns-in_err-name-clause-exact c =
    let p = err_from_is_err_and c.from_residual-in_err-name.result c.from_residual-in_err-name.ensures.1 in
    rw p.1 (λ query is. c.in_err-name.ensures.exact (query.name, is.behind) is.name_spelled)

pub returns-in_err-qtype-clause-exact : goal.returns-in_err-qtype-clause-exact
returns-in_err-qtype-clause-exact c =
    let p = err_from_is_err_and c.from_residual-in_err-qtype.result c.from_residual-in_err-qtype.ensures.1 in
    let header = c.in_ok-header.ensures.exact in
    let name = c.in_ok-name.ensures.exact in
    rw p.1 (no_query_kind c.args.bytes.now c.in_ok-header.header header.0 header.1 c.in_ok-name.name c.in_ok-name.behind name.0 name.1 c.in_err-qtype.ensures.exact)

pub returns-in_err-seen-clause-exact : goal.returns-in_err-seen-clause-exact
returns-in_err-seen-clause-exact c =
    let p = err_from_is_err_and c.from_residual-in_err-seen.result c.from_residual-in_err-seen.ensures.1 in
    let header = c.in_ok-header.ensures.exact in
    let name = c.in_ok-name.ensures.exact in
    rw p.1 (no_query_seen c.args.bytes.now c.in_ok-header.header header.0 header.1 c.in_ok-name.name c.in_ok-name.behind name.0 name.1 c.in_err-seen.ensures)

pub returns-clause-exact : goal.returns-clause-exact
returns-clause-exact c =
    let header = c.in_ok-header.ensures.exact in
    let name = c.in_ok-name.ensures.exact in
    let kind = c.in_ok-qtype.ensures.exact in
    let seen = c.in_ok-seen.ensures in
    query_found c.args.bytes.now c.in_ok-header.header header.0 header.1 c.in_ok-name.name c.in_ok-name.behind name.0 name.1 _ refl
    (c.in_ok-qtype.qtype, c.in_ok-qtype.qclass) kind.0 kind.1 c.in_ok-seen.seen seen.0 seen.1

pub returns-in_err-header-clause-value : goal.returns-in_err-header-clause-value
returns-in_err-header-clause-value c = value_is c.args.bytes.now _ (returns-in_err-header-clause-exact c)

pub returns-in_err-name-clause-value : goal.returns-in_err-name-clause-value
returns-in_err-name-clause-value c = value_is c.args.bytes.now _ (returns-in_err-name-clause-exact c)

pub returns-in_err-qtype-clause-value : goal.returns-in_err-qtype-clause-value
returns-in_err-qtype-clause-value c = value_is c.args.bytes.now _ (returns-in_err-qtype-clause-exact c)

pub returns-in_err-seen-clause-value : goal.returns-in_err-seen-clause-value
returns-in_err-seen-clause-value c = value_is c.args.bytes.now _ (returns-in_err-seen-clause-exact c)

pub returns-clause-value : goal.returns-clause-value
returns-clause-value c = sym (query_is c.args.bytes.now _ (returns-clause-exact c).0)

pub returns-in_err-header-clause-fault : goal.returns-in_err-header-clause-fault
returns-in_err-header-clause-fault c =
    let p = err_from_is_err_and c.from_residual.result c.from_residual.ensures.1 in
    rw p.1 (λ begins none. absurd (c.in_err-header.ensures.exact (record { id = begins.0; flags = begins.1; additional = begins.2 }) begins.3))

pub returns-in_err-name-clause-fault : goal.returns-in_err-name-clause-fault
returns-in_err-name-clause-fault c =
    let p = err_from_is_err_and c.from_residual-in_err-name.result c.from_residual-in_err-name.ensures.1 in
    rw (p.1, p.2) (λ begins none. c.in_err-name.ensures.fault)

pub returns-in_err-qtype-clause-fault : goal.returns-in_err-qtype-clause-fault
returns-in_err-qtype-clause-fault c =
    let p = err_from_is_err_and c.from_residual-in_err-qtype.result c.from_residual-in_err-qtype.ensures.1 in
    rw p.1 (λ begins none. absurd (none (c.in_ok-name.name, c.in_ok-name.behind) c.in_ok-name.ensures.exact.0))

pub returns-in_err-seen-clause-fault : goal.returns-in_err-seen-clause-fault
returns-in_err-seen-clause-fault c =
    let p = err_from_is_err_and c.from_residual-in_err-seen.result c.from_residual-in_err-seen.ensures.1 in
    rw p.1 (λ begins none. absurd (none (c.in_ok-name.name, c.in_ok-name.behind) c.in_ok-name.ensures.exact.0))
