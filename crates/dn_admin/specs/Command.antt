-- Which text is which command of administration.
use Rattle.std.specs.Prelude.{ℕ, ◌-◌, ◌^◌, if◌then◌else◌, List, [], ◌∷◌, codes, Option, None, Some}
use Rattle.dn_io.specs.Options.{◌>>=◌}
use Rattle.dn_rdata.specs.Types.{A}
use Rattle.dn_zone.specs.declared.event.AdminCmd.{AdminCmd}
use Rattle.dn_zone.specs.declared.event.AdminCmd.TheVariants.{Add, AgingOn, AgingOff, NoRefresh, Refresh}
use Rattle.dn_zone.specs.Valid.{interval_limit}
use Rattle.dn_word.specs.Cuts.{cut_last_word, cut_word, trimmed}
use Rattle.dn_word.specs.Names.{name_word}
use Rattle.dn_word.specs.Numbers.{number_within}
use Rattle.dn_word.specs.Words.{is_word, words_of}
use Rattle.dn_text.specs.ReadData.{rdata_of_text}
use Rattle.dn_text.specs.Types.{is_type_a}

-- the command that adds an address at a name, by the text of its data, with this hour as its time stamp
unfoldable pub address_command : List ℕ → List ℕ → List ℕ → ℕ → Option AdminCmd
address_command name ttl text hour = do
  its_name ← name_word name
  its_ttl ← number_within (2 ^ 32 - 1) ttl
  rdata ← rdata_of_text A (trimmed text)
  Some (Add its_name its_ttl A rdata hour)

-- What stands before `hour H` at the end of a text, and that hour. Strings end with a quote, so what stands inside of quotes
-- is never at the end.
unfoldable pub hour_at_end : List ℕ → Option (List ℕ × ℕ)
hour_at_end text = do
  number ← cut_last_word text
  label ← cut_last_word number.0
  hour ← if is_word label.1 (codes "hour") then number_within (2 ^ 32 - 1) number.1 else None
  Some (label.0, hour)

abbrev pub or_static : List ℕ → Option (List ℕ × ℕ) → List ℕ × ℕ
or_static text None = (text, 0)
or_static text (Some found) = found

-- the text of data, and the hour behind it, which is 0 for a record that doesn't age
unfoldable pub dated : List ℕ → List ℕ × ℕ
dated text = or_static text (hour_at_end text)

-- a name, a time to live, a type, and what stands behind them
unfoldable pub add_words : List ℕ → Option (List ℕ × List ℕ × List ℕ × List ℕ)
add_words text = do
  name ← cut_word text
  ttl ← cut_word name.1
  rtype ← cut_word ttl.1
  Some (name.0, ttl.0, rtype.0, rtype.1)

-- `NAME TTL TYPE DATA`, with or without `hour H`, behind `add`; data of a type other than A aren't added yet
unfoldable pub add_of : List ℕ → Option AdminCmd
add_of text = do
  found ← add_words text
  if is_type_a found.2 then address_command found.0 found.1 (dated found.3).0 (dated found.3).1 else None

-- `on` or `off`, behind `aging`
unfoldable pub aging_of : List (List ℕ) → Option AdminCmd
aging_of (word ∷ []) =
    if is_word word (codes "on") then Some AgingOn else (if is_word word (codes "off") then Some AgingOff else None)
aging_of words = None

-- the hours of an interval, within its limit
unfoldable pub interval_of : List (List ℕ) → Option ℕ
interval_of (hours ∷ []) = number_within interval_limit hours
interval_of words = None

abbrev pub interval_named : List ℕ → ℕ → Option AdminCmd
interval_named verb hours =
    if is_word verb (codes "norefresh") then Some (NoRefresh hours)
    else (if is_word verb (codes "refresh") then Some (Refresh hours) else None)

-- `norefresh H` or `refresh H`
unfoldable pub interval_command : List ℕ → List (List ℕ) → Option AdminCmd
interval_command verb words = do
  hours ← interval_of words
  interval_named verb hours

abbrev pub command_with : List ℕ → List ℕ → Option AdminCmd
command_with verb text =
    if is_word verb (codes "add") then add_of text
    else (if is_word verb (codes "aging") then aging_of (words_of text) else interval_command verb (words_of text))

-- the command of administration that a text is
unfoldable pub command_of : List ℕ → Option AdminCmd
command_of text = do
  verb ← cut_word text
  command_with verb.0 verb.1
