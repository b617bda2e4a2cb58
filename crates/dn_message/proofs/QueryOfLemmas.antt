-- Which query the bytes of a message are.
use Rattle.std.specs.Prelude.{◌≡◌, ℕ, List, None, Some, Result}
use Rattle.std.specs.Result.{result_ok}
use Rattle.dn_name.specs.Exact.{Exact, IsOnly}
use Rattle.dn_name.proofs.CallerLemmas.{exact_found, none_is, only_none, only_some, some_is}
use Rattle.dn_message.specs.declared.error.FormError.{FormError}
use Rattle.dn_message.specs.declared.query.Query.{Query}
use Rattle.dn_message.specs.Decisions.Queries.{query_or_not}
use Rattle.dn_message.specs.Query.{IsQuery}
use Rattle.dn_message.specs.QueryOf.{query_of}

module _ (message : List ℕ) where
  pub the_one : IsOnly (IsQuery message) (query_of message)
  unfolding query_of
  the_one = (query_or_not message).1

  pub query_is : (query : Query) → IsQuery message query → query_of message ≡ Some query
  query_is = only_some (IsQuery message) (query_of message) the_one

  pub no_query : ((query : Query) → IsQuery message query → ⊥) → query_of message ≡ None
  no_query = only_none (IsQuery message) (query_of message) the_one

  pub is_query : (query : Query) → query_of message ≡ Some query → IsQuery message query
  is_query = some_is (IsQuery message) (query_of message) the_one

  pub is_no_query : query_of message ≡ None → (query : Query) → IsQuery message query → ⊥
  is_no_query = none_is (IsQuery message) (query_of message) the_one

  -- an exact reader gives it
  pub value_is : (result : Result Query FormError) → Exact (IsQuery message) result → result_ok result ≡ query_of message
  value_is result exact = exact_found (IsQuery message) result (query_of message) exact the_one
