-- A zone that refuses says nothing else.
use Rattle.std.proofs.Common.{◌≡◌, ℕ, zero, suc, Bool, true, false, cond, nat_eq, nat_le, List, [], ◌∷◌, ◌++◌, Option, None, Some, refl}
use Rattle.std.proofs.lemmas.Bool.{cond_both}
use Rattle.std.specs.Prelude.{not, ◌&&◌}
use Rattle.dn_name.specs.Name.{Labels}
use Rattle.dn_rdata.specs.Data.{target_of}
use Rattle.dn_message.specs.declared.rcode.Rcode.{Rcode}
use Rattle.dn_message.specs.declared.rcode.Rcode.TheVariants.{NoError, NxDomain, Refused}
use Rattle.dn_store.specs.Table.{TableState}
use Rattle.dn_answer.specs.declared.reply.AnswerValue.{AnswerValue}
use Rattle.dn_store.specs.declared.owned.Owned.{Owned}
use Rattle.dn_answer.specs.declared.walk.Walk.{Walk}
use Rattle.dn_answer.specs.Answer.{answer_of, refused, reply_of_rows, reply_of_walk, serial_of}
use Rattle.dn_store.specs.Rows.{has_some, of_name, of_type, rows_of}
use Rattle.dn_answer.specs.Size.{fitted, reply_size, truncated, without_additional}
use Rattle.dn_answer.specs.Walk.{asked, by_cut, by_link, cut, ended_at, link, may_follow, missed, name_exists, negative, onward, stopped, walk}

-- the code isn't REFUSED
abbrev Answers : Rcode → Type 0
Answers rcode = rcode ≡ Refused → ⊥

no_error : Answers NoError
no_error is = absurd (cc)

missed_code : (there : Bool) → Answers (cond there NoError NxDomain)
missed_code true is = absurd (cc)
missed_code false is = absurd (cc)

-- ---- the walk

abbrev Ends : Walk → Type 0
Ends walked = Answers walked.rcode

module _ (rows : List Owned) (apex : Labels) (qtype : ℕ) where
  ended_code : (spelled : List Labels) (name : Labels) → Ends (ended_at rows apex qtype spelled name)
  unfolding ended_at
  ended_code spelled name =
      cond_both (has_some (asked rows qtype name))
      (record { answer = asked rows qtype name; authority = []; refers = false; rcode = NoError; spelled = spelled })
      (missed (negative rows apex) (name_exists rows name) spelled) Ends
      (λ found. no_error) (λ none. missed_code (name_exists rows name))

  onward_code : (spelled : List Labels) (target : Option Labels) (go_on : Labels → Walk) → ((next : Labels) → Ends (go_on next)) → Ends (onward apex spelled target go_on)
  onward_code spelled None go_on on = no_error
  onward_code spelled (Some name) go_on on = cond_both (may_follow apex spelled name) (go_on name) (stopped spelled) Ends (λ goes. on name) (λ stops. no_error)

  by_link_code : (spelled : List Labels) (name : Labels) (go_on : Labels → Walk) → ((next : Labels) → Ends (go_on next)) → (one : Option Owned)
      → Ends (by_link rows apex qtype spelled name go_on one)
  by_link_code spelled name go_on on None = ended_code spelled name
  by_link_code spelled name go_on on (Some one) = onward_code spelled (target_of one.row) go_on on

  by_cut_code : (spelled : List Labels) (name : Labels) (go_on : Labels → Walk) → ((next : Labels) → Ends (go_on next)) → (at : Option Labels)
      → Ends (by_cut rows apex qtype spelled name go_on at)
  by_cut_code spelled name go_on on (Some at) = no_error
  by_cut_code spelled name go_on on None = by_link_code spelled name go_on on (link rows qtype name)

  walk_code : (links : ℕ) (spelled : List Labels) (name : Labels) → Ends (walk links rows apex qtype spelled name)
  unfolding walk
  walk_code zero spelled name = by_cut_code spelled name (λ next. stopped spelled) (λ next. no_error) (cut rows apex name)
  walk_code (suc links) spelled name =
      by_cut_code spelled name (λ next. walk links rows apex qtype (spelled ++ next ∷ []) next) (λ next. walk_code links (spelled ++ next ∷ []) next) (cut rows apex name)

-- ---- the reply

fitted_code : (question : Labels) (reply : AnswerValue) → Answers reply.rcode → Answers (fitted question reply).rcode
unfolding fitted
fitted_code question reply answers =
    cond_both (nat_le (reply_size question reply) 512) reply
    (cond (nat_le (reply_size question (without_additional reply)) 512) (without_additional reply) (truncated reply)) (λ value. Answers value.rcode)
    (λ fits. answers)
    (λ long. cond_both (nat_le (reply_size question (without_additional reply)) 512) (without_additional reply) (truncated reply) (λ value. Answers value.rcode)
    (λ fits. answers) (λ longer. answers))

walked_code : (rows : List Owned) (apex host : Labels) (serial : ℕ) (walked : Walk) → Ends walked → Answers (reply_of_walk rows apex host serial walked).rcode
unfolding reply_of_walk
walked_code rows apex host serial walked ends = ends

by_test : (answers : Bool) (one : AnswerValue) → Answers one.rcode → (cond answers one refused).rcode ≡ Refused → cond answers one refused ≡ refused
by_test true one ends is = absurd (ends is)
by_test false one ends is = refl

rows_refuse : (rows : List Owned) (apex : Labels) (serial : ℕ) (host name : Labels) (qtype : ℕ) → (reply_of_rows rows apex serial host name qtype).rcode ≡ Refused
    → reply_of_rows rows apex serial host name qtype ≡ refused
unfolding reply_of_rows
rows_refuse rows apex serial host name qtype is =
    let walked : Walk = walk 16 rows apex qtype (name ∷ []) name in
    by_test (has_some (of_type 6 (of_name apex rows)) && not (nat_eq qtype 252)) (fitted name (reply_of_walk rows apex host serial walked))
    (fitted_code name (reply_of_walk rows apex host serial walked) (walked_code rows apex host serial walked (walk_code rows apex qtype 16 (name ∷ []) name))) is

-- a zone whose code is REFUSED gives no row and no flag
pub answer_refuses : (table : TableState) (apex host name : Labels) (qtype : ℕ) → (answer_of table apex host name qtype).rcode ≡ Refused
    → answer_of table apex host name qtype ≡ refused
unfolding answer_of
answer_refuses table apex host name qtype is = rows_refuse (rows_of table.0) apex (serial_of table.1) host name qtype is

-- each zone refuses a transfer
rows_transfer : (rows : List Owned) (apex : Labels) (serial : ℕ) (host name : Labels) → reply_of_rows rows apex serial host name 252 ≡ refused
unfolding reply_of_rows
rows_transfer rows apex serial host name = by_soa (has_some (of_type 6 (of_name apex rows))) (fitted name (reply_of_walk rows apex host serial (walk 16 rows apex 252 (name ∷ []) name)))
  where
    by_soa : (there : Bool) (one : AnswerValue) → cond (there && false) one refused ≡ refused
    by_soa true one = refl
    by_soa false one = refl

pub transfer_refused : (table : TableState) (apex host name : Labels) → answer_of table apex host name 252 ≡ refused
unfolding answer_of
transfer_refused table apex host name = rows_transfer (rows_of table.0) apex (serial_of table.1) host name
