-- Which line of a script is which command, whatever replicas and zones there are.
use Rattle.std.specs.Prelude.{ℕ, if◌then◌else◌, List, [], ◌∷◌, codes, Option, None, Some}
use Rattle.dn_io.specs.Options.{◌>>=◌}
use Rattle.dn_rdata.specs.Types.{A}
use Rattle.dn_word.specs.Cuts.{cut_word}
use Rattle.dn_word.specs.Hex.{bytes_of_hex}
use Rattle.dn_word.specs.Moments.{moment_of}
use Rattle.dn_word.specs.Names.{name_word}
use Rattle.dn_word.specs.Numbers.{number_within}
use Rattle.dn_word.specs.Replicas.{id_of, is_replica_name}
use Rattle.dn_text.specs.Types.{is_type_a}
use Rattle.dn_word.specs.Words.{is_word}
use Rattle.dn_admin.specs.Command.{command_of}
use Rattle.dn_script.specs.declared.line.ScriptLine.{ScriptLine}
use Rattle.dn_script.specs.declared.line.ScriptLine.TheVariants as lines

-- `replica R ID HOST`
unfoldable pub replica_line : List (List ℕ) → Option ScriptLine
replica_line (name ∷ id ∷ host ∷ []) = do
  its_name ← if is_replica_name name then Some name else None
  its_id ← id_of id
  its_host ← name_word host
  Some (lines.Replica its_name its_id its_host)
replica_line words = None

-- `create R Z MAILBOX`, behind `zone`
unfoldable pub create_line : List (List ℕ) → Option ScriptLine
create_line (replica ∷ apex ∷ mailbox ∷ []) = do
  its_apex ← name_word apex
  its_mailbox ← name_word mailbox
  Some (lines.Create replica its_apex its_mailbox)
create_line words = None

-- `join R Z`, behind `zone`
unfoldable pub join_line : List (List ℕ) → Option ScriptLine
join_line (replica ∷ apex ∷ []) = do
  its_apex ← name_word apex
  Some (lines.Join replica its_apex)
join_line words = None

unfoldable pub zone_line : List (List ℕ) → Option ScriptLine
zone_line [] = None
zone_line (verb ∷ words) =
    if is_word verb (codes "create") then create_line words
    else (if is_word verb (codes "join") then join_line words else None)

-- `at TICKS`
unfoldable pub at_line : List (List ℕ) → Option ScriptLine
at_line (ticks ∷ []) = do
  moment ← moment_of ticks
  Some (lines.At moment)
at_line words = None

-- the two words behind the first one, and what stands behind them
unfoldable pub admin_words : List ℕ → Option (List ℕ × List ℕ × List ℕ)
admin_words text = do
  verb ← cut_word text
  replica ← cut_word verb.1
  apex ← cut_word replica.1
  Some (replica.0, apex.0, apex.1)

-- `admin R Z COMMAND`, where the command is a text, as blanks in quotes belong to its data
unfoldable pub admin_line : List ℕ → Option ScriptLine
admin_line text = do
  found ← admin_words text
  its_apex ← name_word found.1
  cmd ← command_of found.2
  Some (lines.Admin found.0 its_apex cmd)

-- `ask R NAME TYPE`; a question for a type other than A isn't a line yet
unfoldable pub ask_line : List (List ℕ) → Option ScriptLine
ask_line (replica ∷ name ∷ qtype ∷ []) = do
  its_name ← name_word name
  if is_type_a qtype then Some (lines.Ask replica its_name A) else None
ask_line words = None

-- `udp R HEX`
unfoldable pub udp_line : List (List ℕ) → Option ScriptLine
udp_line (replica ∷ digits ∷ []) = do
  bytes ← bytes_of_hex digits
  Some (lines.Udp replica bytes)
udp_line words = None

-- `pull B A Z`
unfoldable pub pull_line : List (List ℕ) → Option ScriptLine
pull_line (replica ∷ supplier ∷ apex ∷ []) = do
  its_apex ← name_word apex
  Some (lines.Pull replica supplier its_apex)
pull_line words = None

-- `deliver K`
unfoldable pub deliver_line : List (List ℕ) → Option ScriptLine
deliver_line (number ∷ []) = do
  packet ← number_within 4294967295 number
  Some (lines.Deliver packet)
deliver_line words = None

-- `pass R Z`
unfoldable pub pass_line : List (List ℕ) → Option ScriptLine
pass_line (replica ∷ apex ∷ []) = do
  its_apex ← name_word apex
  Some (lines.Pass replica its_apex)
pass_line words = None

-- the lines about packets, passes and datagrams
unfoldable pub event_line : List ℕ → List (List ℕ) → Option ScriptLine
event_line verb words =
    if is_word verb (codes "pull") then pull_line words
    else (if is_word verb (codes "deliver") then deliver_line words
    else (if is_word verb (codes "pass") then pass_line words
    else (if is_word verb (codes "udp") then udp_line words else None)))

-- a line of a script, by its text and its words
unfoldable pub line_of : List ℕ → List (List ℕ) → Option ScriptLine
line_of text [] = None
line_of text (verb ∷ words) =
    if is_word verb (codes "replica") then replica_line words
    else (if is_word verb (codes "zone") then zone_line words
    else (if is_word verb (codes "at") then at_line words
    else (if is_word verb (codes "admin") then admin_line text
    else (if is_word verb (codes "ask") then ask_line words else event_line verb words))))
