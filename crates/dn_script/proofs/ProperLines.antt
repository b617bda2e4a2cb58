-- Each line that words are has names that are names and a proper command, so its events are proper.
use Rattle.std.proofs.Common.{◌≡◌, ℕ, Bool, true, false, codes, if◌then◌else◌, List, [], ◌∷◌, Option, None, Some, refl}
use Rattle.dn_io.specs.Options.{◌>>=◌}
use Rattle.dn_name.specs.Name.{IsName, Labels}
use Rattle.dn_rdata.specs.Types.{A}
use Rattle.dn_zone.specs.Valid.{IsProperCommand}
use Rattle.dn_word.specs.Hex.{bytes_of_hex}
use Rattle.dn_word.specs.Moments.{moment_of}
use Rattle.dn_word.specs.Names.{name_word}
use Rattle.dn_word.specs.Numbers.{number_within}
use Rattle.dn_word.specs.Replicas.{id_of}
use Rattle.dn_text.specs.Types.{is_type_a}
use Rattle.dn_word.specs.Words.{is_word, words_of}
use Rattle.dn_word.proofs.CallerLemmas.{bound, chosen, given_is, name_is_name}
use Rattle.dn_admin.specs.Command.{command_of}
use Rattle.dn_admin.proofs.CallerLemmas.{proper_command}
use Rattle.dn_world.specs.declared.event.WorldEvent.{WorldEvent}
use Rattle.dn_world.specs.declared.event.WorldEvent.TheVariants.{Replica}
use Rattle.dn_world.specs.Runs.{AreProper}
use Rattle.dn_script.specs.declared.line.ScriptLine.{ScriptLine}
use Rattle.dn_script.specs.declared.line.ScriptLine.TheVariants as lines
use Rattle.dn_script.specs.declared.script.Script.{Script}
use Rattle.dn_script.specs.Line.{admin_line, admin_words, ask_line, at_line, create_line, deliver_line, event_line, join_line, line_of, pass_line, pull_line, replica_line, udp_line, zone_line}
use Rattle.dn_script.specs.Play.{events_of, events_or_none, is_new_name, line_events, replica_number, text_events}
use Rattle.dn_lines.specs.Words.{does_nothing}
use Rattle.dn_script.proofs.PassRuns.{pass_proper}

abbrev pub IsProperLine : ScriptLine → Type 0
IsProperLine (lines.Replica name id host) = IsName host
IsProperLine (lines.Create replica apex mailbox) = IsName apex × IsName mailbox
IsProperLine (lines.Join replica apex) = IsName apex
IsProperLine (lines.Pull replica supplier apex) = IsName apex
IsProperLine (lines.Pass replica apex) = IsName apex
IsProperLine (lines.Deliver packet) = Unit {0}
IsProperLine (lines.At moment) = Unit {0}
IsProperLine (lines.Admin replica apex cmd) = IsName apex × IsProperCommand cmd
IsProperLine (lines.Ask replica name qtype) = Unit {0}
IsProperLine (lines.Udp replica bytes) = Unit {0}

-- ---- lines

abbrev Proper : Option ScriptLine → Type 0
Proper found = (line : ScriptLine) → found ≡ Some line → IsProperLine line

nothing : Proper None
nothing line is = absurd (cc)

proper_replica : (words : List (List ℕ)) → Proper (replica_line words)
unfolding replica_line
proper_replica [] = nothing
proper_replica (name ∷ []) = nothing
proper_replica (name ∷ id ∷ []) = nothing
proper_replica (name ∷ id ∷ host ∷ next ∷ rest) = nothing
proper_replica (name ∷ id ∷ host ∷ []) =
    bound IsProperLine _ _ (λ its_name there. bound IsProperLine (id_of id) _ (λ its_id known. bound IsProperLine (name_word host) _
    (λ its_host named line is. given_is IsProperLine (lines.Replica its_name its_id its_host) line (name_is_name host its_host named) is)))

proper_create : (words : List (List ℕ)) → Proper (create_line words)
unfolding create_line
proper_create [] = nothing
proper_create (replica ∷ []) = nothing
proper_create (replica ∷ apex ∷ []) = nothing
proper_create (replica ∷ apex ∷ mailbox ∷ next ∷ rest) = nothing
proper_create (replica ∷ apex ∷ mailbox ∷ []) =
    bound IsProperLine (name_word apex) _ (λ its_apex named. bound IsProperLine (name_word mailbox) _
    (λ its_mailbox also line is.
    given_is IsProperLine (lines.Create replica its_apex its_mailbox) line (name_is_name apex its_apex named, name_is_name mailbox its_mailbox also) is))

-- a line that ends with the name of a zone
named_line : (word : List ℕ) (make : Labels → ScriptLine) → ((apex : Labels) → IsName apex → IsProperLine (make apex)) → Proper (name_word word >>= λ apex. Some (make apex))
named_line word make proper =
    bound IsProperLine (name_word word) (λ apex. Some (make apex)) (λ apex named line is. given_is IsProperLine (make apex) line (proper apex (name_is_name word apex named)) is)

proper_join : (words : List (List ℕ)) → Proper (join_line words)
unfolding join_line
proper_join [] = nothing
proper_join (replica ∷ []) = nothing
proper_join (replica ∷ apex ∷ next ∷ rest) = nothing
proper_join (replica ∷ apex ∷ []) = named_line apex (λ its_apex. lines.Join replica its_apex) (λ its_apex named. named)

proper_pass : (words : List (List ℕ)) → Proper (pass_line words)
unfolding pass_line
proper_pass [] = nothing
proper_pass (replica ∷ []) = nothing
proper_pass (replica ∷ apex ∷ next ∷ rest) = nothing
proper_pass (replica ∷ apex ∷ []) = named_line apex (λ its_apex. lines.Pass replica its_apex) (λ its_apex named. named)

proper_pull : (words : List (List ℕ)) → Proper (pull_line words)
unfolding pull_line
proper_pull [] = nothing
proper_pull (replica ∷ []) = nothing
proper_pull (replica ∷ supplier ∷ []) = nothing
proper_pull (replica ∷ supplier ∷ apex ∷ next ∷ rest) = nothing
proper_pull (replica ∷ supplier ∷ apex ∷ []) = named_line apex (λ its_apex. lines.Pull replica supplier its_apex) (λ its_apex named. named)

proper_zone : (words : List (List ℕ)) → Proper (zone_line words)
unfolding zone_line
proper_zone [] = nothing
proper_zone (verb ∷ words) =
    chosen IsProperLine (is_word verb (codes "create")) (create_line words) _ (proper_create words)
    (chosen IsProperLine (is_word verb (codes "join")) (join_line words) None (proper_join words) nothing)

proper_at : (words : List (List ℕ)) → Proper (at_line words)
unfolding at_line
proper_at [] = nothing
proper_at (ticks ∷ next ∷ rest) = nothing
proper_at (ticks ∷ []) = bound IsProperLine (moment_of ticks) _ (λ moment there line is. given_is IsProperLine (lines.At moment) line tt is)

proper_deliver : (words : List (List ℕ)) → Proper (deliver_line words)
unfolding deliver_line
proper_deliver [] = nothing
proper_deliver (number ∷ next ∷ rest) = nothing
proper_deliver (number ∷ []) = bound IsProperLine (number_within 4294967295 number) _ (λ packet there line is. given_is IsProperLine (lines.Deliver packet) line tt is)

proper_admin : (text : List ℕ) → Proper (admin_line text)
unfolding admin_line
proper_admin text =
    bound IsProperLine (admin_words text) _ (λ found there. bound IsProperLine (name_word found.1) _ (λ its_apex named. bound IsProperLine (command_of found.2) _
    (λ cmd commanded line is. given_is IsProperLine (lines.Admin found.0 its_apex cmd) line (name_is_name found.1 its_apex named, proper_command found.2 cmd commanded) is)))

proper_ask : (words : List (List ℕ)) → Proper (ask_line words)
unfolding ask_line
proper_ask [] = nothing
proper_ask (replica ∷ []) = nothing
proper_ask (replica ∷ name ∷ []) = nothing
proper_ask (replica ∷ name ∷ qtype ∷ next ∷ rest) = nothing
proper_ask (replica ∷ name ∷ qtype ∷ []) =
    bound IsProperLine (name_word name) _ (λ its_name named.
    chosen IsProperLine (is_type_a qtype) (Some (lines.Ask replica its_name A)) None (λ line is. given_is IsProperLine (lines.Ask replica its_name A) line tt is) nothing)

proper_udp : (words : List (List ℕ)) → Proper (udp_line words)
unfolding udp_line
proper_udp [] = nothing
proper_udp (replica ∷ []) = nothing
proper_udp (replica ∷ digits ∷ next ∷ rest) = nothing
proper_udp (replica ∷ digits ∷ []) = bound IsProperLine (bytes_of_hex digits) _ (λ bytes there line is. given_is IsProperLine (lines.Udp replica bytes) line tt is)

proper_event : (verb : List ℕ) (words : List (List ℕ)) → Proper (event_line verb words)
unfolding event_line
proper_event verb words =
    chosen IsProperLine (is_word verb (codes "pull")) (pull_line words) _ (proper_pull words)
    (chosen IsProperLine (is_word verb (codes "deliver")) (deliver_line words) _ (proper_deliver words)
    (chosen IsProperLine (is_word verb (codes "pass")) (pass_line words) _ (proper_pass words)
    (chosen IsProperLine (is_word verb (codes "udp")) (udp_line words) None (proper_udp words) nothing)))

proper_line : (text : List ℕ) (words : List (List ℕ)) → Proper (line_of text words)
unfolding line_of
proper_line text [] = nothing
proper_line text (verb ∷ words) =
    chosen IsProperLine (is_word verb (codes "replica")) (replica_line words) _ (proper_replica words)
    (chosen IsProperLine (is_word verb (codes "zone")) (zone_line words) _ (proper_zone words)
    (chosen IsProperLine (is_word verb (codes "at")) (at_line words) _ (proper_at words)
    (chosen IsProperLine (is_word verb (codes "admin")) (admin_line text) _ (proper_admin text)
    (chosen IsProperLine (is_word verb (codes "ask")) (ask_line words) _ (proper_ask words) (proper_event verb words)))))

-- ---- events

abbrev AreProperOrNone : Option (List WorldEvent) → Type 0
AreProperOrNone found = AreProper (events_or_none found)

found_proper : (found : Option ℕ) (go_on : ℕ → Option (List WorldEvent)) → ((at : ℕ) → AreProperOrNone (go_on at)) → AreProperOrNone (found >>= go_on)
found_proper None go_on proper = tt
found_proper (Some at) go_on proper = proper at

new_proper : (fresh : Bool) (events : List WorldEvent) → AreProper events → AreProperOrNone (if fresh then Some events else None)
new_proper true events proper = proper
new_proper false events proper = tt

line_proper : (script : Script) (line : ScriptLine) → IsProperLine line → AreProperOrNone (events_of script line)
unfolding events_of
line_proper script (lines.Replica name id host) proper = new_proper (is_new_name script name) (Replica id host ∷ []) (proper, tt)
line_proper script (lines.Create replica apex mailbox) proper = found_proper (replica_number script replica) _ (λ at. (proper, tt))
line_proper script (lines.Join replica apex) proper = found_proper (replica_number script replica) _ (λ at. (proper, tt))
line_proper script (lines.Pull replica supplier apex) proper =
    found_proper (replica_number script replica) _ (λ by. found_proper (replica_number script supplier) _ (λ of. (proper, tt)))
line_proper script (lines.Pass replica apex) proper = found_proper (replica_number script replica) _ (λ at. pass_proper script.world at apex script.moment proper)
line_proper script (lines.Deliver packet) proper = (tt, tt)
line_proper script (lines.At moment) proper = tt
line_proper script (lines.Admin replica apex cmd) proper = found_proper (replica_number script replica) _ (λ at. (proper, tt))
line_proper script (lines.Ask replica name qtype) proper = tt
line_proper script (lines.Udp replica bytes) proper = tt

read_proper : (script : Script) (found : Option ScriptLine) → Proper found → AreProper (line_events script found)
read_proper script None proper = tt
read_proper script (Some line) proper = line_proper script line (proper line refl)

text_by : (nothing : Bool) (events : List WorldEvent) → AreProper events → AreProper (if nothing then [] else events)
text_by true events proper = tt
text_by false events proper = proper

-- the events of a line by its text
pub text_proper : (script : Script) (text : List ℕ) → AreProper (text_events script text)
unfolding text_events
text_proper script text =
    text_by (does_nothing text) (line_events script (line_of text (words_of text))) (read_proper script (line_of text (words_of text)) (proper_line text (words_of text)))
