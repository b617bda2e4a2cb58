-- The query that the bytes of a message are, as a function.
use Rattle.std.specs.Prelude.{ℕ, List, Option}
use Rattle.dn_message.specs.declared.query.Query.{Query}
use Rattle.dn_message.specs.Decisions.Queries.{query_or_not}

-- the query that these bytes are (`IsQuery`), none where they are none
unfoldable pub query_of : List ℕ → Option Query
query_of message = (query_or_not message).0
