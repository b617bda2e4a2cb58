-- What a datagram comes to can be replied to, where the zones that are seen can be served.
use Rattle.std.proofs.Common.{◌≡◌, ℕ, ◌≤◌, Bool, true, false, if◌then◌else◌, List, [], ◌∷◌, length, Option, None, Some, refl, subst, arith}
use Rattle.std.proofs.lemmas.Bool.Decides.{nat_tests}
use Rattle.std.specs.List.{AllByRecursion}
use Rattle.std.specs.Option.{option_map_or}
use Rattle.std.specs.Prelude.{filter, nat_eq, nat_lt, not, ◌||◌}
use Rattle.dn_rdata.specs.Types.{AXFR, IN}
use Rattle.dn_message.specs.declared.kind.Kind.{Kind}
use Rattle.dn_message.specs.declared.kind.Kind.TheVariants as kinds
use Rattle.dn_message.specs.declared.query.Query.{Query}
use Rattle.dn_message.specs.declared.rcode.Rcode.{Rcode}
use Rattle.dn_message.specs.declared.rcode.Rcode.TheVariants.{NoError, FormErr, ServFail, NxDomain, NotImp, Refused, YxDomain, YxRrset, NxRrset, NotAuth, NotZone}
use Rattle.dn_message.specs.Kind.{kind_of}
use Rattle.dn_message.specs.QueryOf.{query_of}
use Rattle.dn_message.proofs.CallerLemmas.{is_query}
use Rattle.dn_store.proofs.CallerLemmas.{all_filter}
use Rattle.dn_answer.specs.declared.datagrams.Received.TheVariants.{Answer, Code}
use Rattle.dn_answer.specs.Datagram.{IsRepliable, is_over, is_refusal, is_refused, nearer, nearest, query_received, received, received_as, zone_over}
use Rattle.dn_answer.specs.View.{IsServable, ZoneSeen}

-- bytes of any kind but Silent have a whole header
whole_header : (message : List ℕ) → (kind_of message ≡ kinds.Silent → ⊥) → 12 ≤ length message
whole_header message loud = by_test (nat_lt (length message) 12) refl
  where
    by_test : (short : Bool) → nat_lt (length message) 12 ≡ short → 12 ≤ length message
    by_test true is = absurd (loud (rw is refl))
    by_test false is = grind (arith, nat_tests)

-- ---- codes

pub refusal : (rcode : Rcode) → rcode ≡ Refused → is_refusal rcode ≡ true
refusal rcode is = rw is refl

pub no_refusal : (rcode : Rcode) → (rcode ≡ Refused → ⊥) → is_refusal rcode ≡ false
no_refusal NoError other = refl
no_refusal FormErr other = refl
no_refusal ServFail other = refl
no_refusal NxDomain other = refl
no_refusal NotImp other = refl
no_refusal Refused other = absurd (other refl)
no_refusal YxDomain other = refl
no_refusal YxRrset other = refl
no_refusal NxRrset other = refl
no_refusal NotAuth other = refl
no_refusal NotZone other = refl

pub refuses : (rcode : Rcode) → is_refusal rcode ≡ true → rcode ≡ Refused
refuses NoError is = absurd (cc)
refuses FormErr is = absurd (cc)
refuses ServFail is = absurd (cc)
refuses NxDomain is = absurd (cc)
refuses NotImp is = absurd (cc)
refuses Refused is = refl
refuses YxDomain is = absurd (cc)
refuses YxRrset is = absurd (cc)
refuses NxRrset is = absurd (cc)
refuses NotAuth is = absurd (cc)
refuses NotZone is = absurd (cc)

-- ---- the zone that is reached

nearer_holds : (P : ZoneSeen → Type 0) (first : ZoneSeen) (found : Option ZoneSeen) (zone : ZoneSeen) → P first → ((other : ZoneSeen) → found ≡ Some other → P other)
    → nearer first found ≡ Some zone → P zone
nearer_holds P first None zone holds rest is = let same : first ≡ zone = cc in subst P same holds
nearer_holds P first (Some other) zone holds rest is = by_test (nat_lt (length first.apex) (length other.apex)) is
  where
    by_test : (longer : Bool) → (if longer then Some other else Some first) ≡ Some zone → P zone
    by_test true is = let same : other ≡ zone = cc in subst P same (rest other refl)
    by_test false is = let same : first ≡ zone = cc in subst P same holds

nearest_holds : (P : ZoneSeen → Type 0) (zones : List ZoneSeen) (zone : ZoneSeen) → AllByRecursion P zones → nearest zones ≡ Some zone → P zone
unfolding nearest
nearest_holds P [] zone all is = absurd (cc)
nearest_holds P (first ∷ rest) zone all is = nearer_holds P first (nearest rest) zone all.0 (λ other there. nearest_holds P rest other all.1 there) is

class_is : (query : Query) → is_refused query ≡ false → query.qclass ≡ IN
class_is query is = by_signed query.signed (nat_eq query.qclass IN) (nat_eq query.qtype AXFR) refl is
  where
    by_signed : (signed here transfer : Bool) → nat_eq query.qclass IN ≡ here → (signed || not here || transfer) ≡ false → query.qclass ≡ IN
    by_signed true here transfer of none = absurd (cc)
    by_signed false false transfer of none = absurd (cc)
    by_signed false true transfer of none = grind (arith, nat_tests)

-- ---- what a datagram comes to

module _ (zones : List ZoneSeen) (all : AllByRecursion IsServable zones) (request : List ℕ) where
  by_zone : (query : Query) (found : Option ZoneSeen) → zone_over zones query.name ≡ found → query_of request ≡ Some query → 12 ≤ length request → query.qclass ≡ IN
      → IsRepliable request (option_map_or (λ zone. Answer zone query) found (Code Refused))
  by_zone query None there read whole class = whole
  by_zone query (Some zone) there read whole class =
      let servable : IsServable zone = nearest_holds IsServable (filter (is_over query.name) zones) zone (all_filter IsServable (is_over query.name) zones all) there in
      (whole, servable, (is_query request query read).name_spelled.0, class)

  by_refusal : (query : Query) (refused : Bool) → is_refused query ≡ refused → query_of request ≡ Some query → 12 ≤ length request
      → IsRepliable request (if refused then Code Refused else option_map_or (λ zone. Answer zone query) (zone_over zones query.name) (Code Refused))
  by_refusal query true test read whole = whole
  by_refusal query false test read whole = by_zone query (zone_over zones query.name) refl read whole (class_is query test)

  by_query : (found : Option Query) → query_of request ≡ found → 12 ≤ length request → IsRepliable request (option_map_or (query_received zones) found (Code FormErr))
  by_query None read whole = whole
  by_query (Some query) read whole = by_refusal query (is_refused query) refl read whole

  by_kind : (kind : Kind) → ((kind ≡ kinds.Silent → ⊥) → 12 ≤ length request) → IsRepliable request (received_as kind zones request)
  by_kind kinds.Silent whole = tt
  by_kind kinds.Query whole = by_query (query_of request) refl (whole (λ is. absurd (cc)))
  by_kind kinds.Update whole = whole (λ is. absurd (cc))
  by_kind (kinds.Other opcode) whole = whole (λ is. absurd (cc))

  pub repliable : IsRepliable request (received zones request)
  unfolding received
  repliable = by_kind (kind_of request) (whole_header request)
