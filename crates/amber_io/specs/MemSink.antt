-- What a sink in memory shows.
use Rattle.std.specs.Prelude.{ℕ, List}
use Rattle.amber_io.specs.declared.fails.Fails.{Fails}
use Rattle.amber_io.specs.declared.mem_sink.MemSink.{MemSink}

-- all that was written
abbrev pub written_bytes : MemSink → List ℕ
written_bytes sink = sink.written.items

-- which of its puts fail, and how much they still write
abbrev pub sink_plan : MemSink → Fails
sink_plan sink = sink.fails

-- how many puts it has had, up to `u64::MAX`: the number of the last one
abbrev pub puts_made : MemSink → ℕ
puts_made sink = sink.puts_made

-- how many of them failed
abbrev pub failed_puts : MemSink → ℕ
failed_puts sink = sink.faults
