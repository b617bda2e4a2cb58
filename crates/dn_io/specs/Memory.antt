-- What contracts see of the sources and sinks.
use Rattle.std.specs.Prelude.{ℕ, ◌+◌, ◌<◌, ◌==◌, Bool, List, length, vec_capacity, vec_len, Option, Some}
use Rattle.std.specs.List.{list_any}
use Rattle.dn_io.specs.declared.sink.MemSink.{MemSink}
use Rattle.dn_io.specs.declared.source.MemSource.{MemSource}
use Rattle.dn_io.specs.declared.standard.StdSink.{StdSink}
use Rattle.dn_io.specs.declared.standard.StdSource.{StdSource}
use Rattle.dn_io.specs.declared.sure.SureSource.{SureSource}

-- the bytes that are left
abbrev pub left_of : MemSource → Option (List ℕ)
left_of source = Some source.unread

-- how often a read has failed
abbrev pub reads_failed : MemSource → ℕ
reads_failed source = source.faults

-- how many reads were made
abbrev pub reads_made : MemSource → ℕ
reads_made source = source.calls

-- the numbers of the reads that fail, from 0
abbrev pub failing_reads : MemSource → List ℕ
failing_reads source = source.fails

-- whether the next read is one of those that fail
abbrev pub read_fails : MemSource → Bool
read_fails source = list_any (λ call. call == source.calls) source.fails

-- the bytes that were written
abbrev pub written_of : MemSink → Option (List ℕ)
written_of sink = Some sink.bytes.items

-- the sink has to grow for this piece
abbrev pub LacksRoom : MemSink → List ℕ → Type 0
LacksRoom sink piece = vec_capacity sink.bytes < vec_len sink.bytes + length piece

-- how often a write has failed
abbrev pub writes_failed : MemSink → ℕ
writes_failed sink = sink.faults

-- how many writes were made
abbrev pub writes_made : MemSink → ℕ
writes_made sink = sink.calls

-- the numbers of the writes that fail, from 0
abbrev pub failing_writes : MemSink → List ℕ
failing_writes sink = sink.fails

-- whether the next write is one of those that fail
abbrev pub write_fails : MemSink → Bool
write_fails sink = list_any (λ call. call == sink.calls) sink.fails

-- the bytes that are left, where the reader tells them
abbrev pub std_left_of : {R : Type 0} → (R → Option (List ℕ)) → StdSource R → Option (List ℕ)
std_left_of remaining source = remaining source.inner

-- how often a read has failed
abbrev pub std_reads_failed : {R : Type 0} → StdSource R → ℕ
std_reads_failed source = source.faults

-- the bytes that were written, where the writer tells them
abbrev pub std_written_of : {W : Type 0} → (W → Option (List ℕ)) → StdSink W → Option (List ℕ)
std_written_of contents sink = contents sink.inner

-- how often a write or a flush has failed
abbrev pub std_writes_failed : {W : Type 0} → StdSink W → ℕ
std_writes_failed sink = sink.faults

-- the bytes that are left
abbrev pub sure_left_of : SureSource → Option (List ℕ)
sure_left_of source = Some source.unread
