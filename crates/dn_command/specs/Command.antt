-- Which words of the command line are which command.
use Rattle.std.specs.Prelude.{ℕ, nat_eq, if◌then◌else◌, List, [], ◌∷◌, codes, Option, None, Some}
use Rattle.std.specs.List.{slice_split}
use Rattle.dn_io.specs.declared.outside.Addr.{Addr}
use Rattle.dn_io.specs.Options.{◌>>=◌}
use Rattle.dn_word.specs.Addresses.{address_of}
use Rattle.dn_word.specs.Words.{is_word}
use Rattle.dn_word.specs.Numbers.{number_within}
use Rattle.dn_command.specs.declared.command.Command.{Command}
use Rattle.dn_command.specs.declared.command.Command.TheVariants.{Show, Pack, Replay, Generate, Serve, Usage}

-- an address and a port joined by a colon
unfoldable pub addr_of_parts : List (List ℕ) → Option Addr
addr_of_parts (ip ∷ port ∷ []) = do
  its_ip ← address_of ip
  its_port ← number_within 65535 port
  Some (record { ip = its_ip; port = its_port })
addr_of_parts parts = None

-- `IP:PORT`, a dotted quad and a port in decimal
unfoldable pub addr_of : List ℕ → Option Addr
addr_of word = addr_of_parts (slice_split (λ byte. nat_eq byte 58) word)

abbrev pub or_usage : Option Command → Command
or_usage None = Usage
or_usage (Some command) = command

-- a command of one word
abbrev pub command_alone : List ℕ → Command
command_alone word =
    if is_word word (codes "show") then Show
    else (if is_word word (codes "pack") then Pack
    else (if is_word word (codes "replay") then Replay else Usage))

-- `generate N`, up to 1,000,000
unfoldable pub generate_command : List ℕ → List ℕ → Command
generate_command word count =
    if is_word word (codes "generate")
    then or_usage (number_within 1000000 count >>= λ many. Some (Generate many))
    else Usage

-- `serve IP:PORT IP:PORT`
unfoldable pub serve_command : List ℕ → List ℕ → List ℕ → Command
serve_command word at sync =
    if is_word word (codes "serve")
    then or_usage (addr_of at >>= λ its_at. addr_of sync >>= λ its_sync. Some (Serve its_at its_sync))
    else Usage

-- the command of the words
unfoldable pub command_in : List (List ℕ) → Command
command_in (word ∷ []) = command_alone word
command_in (word ∷ count ∷ []) = generate_command word count
command_in (word ∷ at ∷ sync ∷ []) = serve_command word at sync
command_in words = Usage
