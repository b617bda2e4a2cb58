-- Each command that a text is is a proper one.
use Rattle.std.proofs.Common.{◌≡◌, ◌-◌, ◌^◌, ◌≤◌, ℕ, true, codes, List, [], ◌∷◌, None, Some, refl}
use Rattle.dn_rdata.specs.Types.{A, answerable}
use Rattle.dn_zone.specs.declared.event.AdminCmd.{AdminCmd}
use Rattle.dn_zone.specs.declared.event.AdminCmd.TheVariants.{Add, AgingOn, AgingOff, NoRefresh, Refresh}
use Rattle.dn_zone.specs.Valid.{IsProperCommand, interval_limit}
use Rattle.dn_word.specs.Cuts.{cut_word, trimmed}
use Rattle.dn_word.specs.Names.{name_word}
use Rattle.dn_word.specs.Numbers.{number_within}
use Rattle.dn_word.specs.Words.{is_word, words_of}
use Rattle.dn_text.specs.ReadData.{rdata_of_text}
use Rattle.dn_text.specs.Types.{is_type_a}
use Rattle.dn_text.proofs.CallerLemmas.{read_is_data}
use Rattle.dn_word.proofs.CallerLemmas.{bound, chosen, given_is, name_is_name, number_is_within}
use Rattle.dn_admin.specs.Command.{add_of, add_words, address_command, aging_of, command_of, dated, interval_command, interval_named, interval_of}

a_is_answered : answerable A ≡ true
unfolding answerable
a_is_answered = refl

nothing_there : (P : AdminCmd → Type 0) (cmd : AdminCmd) → None ≡ Some cmd → P cmd
nothing_there P cmd is = absurd (cc)

proper_address : (name ttl text : List ℕ) (hour : ℕ) (cmd : AdminCmd) → address_command name ttl text hour ≡ Some cmd → IsProperCommand cmd
unfolding address_command
proper_address name ttl text hour =
    bound IsProperCommand (name_word name) _
    (λ its_name named. bound IsProperCommand (number_within (2 ^ 32 - 1) ttl) _
    (λ its_ttl within. bound IsProperCommand (rdata_of_text A (trimmed text)) _
    (λ rdata there cmd is.
    given_is IsProperCommand (Add its_name its_ttl A rdata hour) cmd
    (name_is_name name its_name named, a_is_answered, refl, read_is_data A (trimmed text) rdata there) is)))

proper_add : (text : List ℕ) (cmd : AdminCmd) → add_of text ≡ Some cmd → IsProperCommand cmd
unfolding add_of
proper_add text =
    bound IsProperCommand (add_words text) _
    (λ found there. chosen IsProperCommand (is_type_a found.2) (address_command found.0 found.1 (dated found.3).0 (dated found.3).1) None
    (proper_address found.0 found.1 (dated found.3).0 (dated found.3).1) (nothing_there IsProperCommand))

proper_aging : (words : List (List ℕ)) (cmd : AdminCmd) → aging_of words ≡ Some cmd → IsProperCommand cmd
unfolding aging_of
proper_aging [] cmd is = absurd (cc)
proper_aging (word ∷ next ∷ rest) cmd is = absurd (cc)
proper_aging (word ∷ []) cmd is =
    chosen IsProperCommand (is_word word (codes "on")) (Some AgingOn) _ (λ given on. given_is IsProperCommand AgingOn given tt on)
    (chosen IsProperCommand (is_word word (codes "off")) (Some AgingOff) None (λ given off. given_is IsProperCommand AgingOff given tt off) (nothing_there IsProperCommand)) cmd is

interval_within : (words : List (List ℕ)) (hours : ℕ) → interval_of words ≡ Some hours → hours ≤ interval_limit
unfolding interval_of
interval_within [] hours is = absurd (cc)
interval_within (word ∷ next ∷ rest) hours is = absurd (cc)
interval_within (word ∷ []) hours is = number_is_within interval_limit word hours is

proper_named : (verb : List ℕ) (hours : ℕ) → hours ≤ interval_limit → (cmd : AdminCmd) → interval_named verb hours ≡ Some cmd → IsProperCommand cmd
proper_named verb hours within cmd is =
    chosen IsProperCommand (is_word verb (codes "norefresh")) (Some (NoRefresh hours)) _ (λ given one. given_is IsProperCommand (NoRefresh hours) given within one)
    (chosen IsProperCommand (is_word verb (codes "refresh")) (Some (Refresh hours)) None (λ given one. given_is IsProperCommand (Refresh hours) given within one)
    (nothing_there IsProperCommand)) cmd is

proper_interval : (verb : List ℕ) (words : List (List ℕ)) (cmd : AdminCmd) → interval_command verb words ≡ Some cmd → IsProperCommand cmd
unfolding interval_command
proper_interval verb words =
    bound IsProperCommand (interval_of words) (λ hours. interval_named verb hours) (λ hours there. proper_named verb hours (interval_within words hours there))

pub proper_command : (text : List ℕ) (cmd : AdminCmd) → command_of text ≡ Some cmd → IsProperCommand cmd
unfolding command_of
proper_command text =
    bound IsProperCommand (cut_word text) _
    (λ verb there. chosen IsProperCommand (is_word verb.0 (codes "add")) (add_of verb.1) _ (proper_add verb.1)
    (chosen IsProperCommand (is_word verb.0 (codes "aging")) (aging_of (words_of verb.1)) (interval_command verb.0 (words_of verb.1))
    (proper_aging (words_of verb.1)) (proper_interval verb.0 (words_of verb.1))))
