-- What a source in memory shows.
use Rattle.std.specs.Prelude.{ℕ, List, drop}
use Rattle.amber_io.specs.declared.mem_source.MemSource.{MemSource}

-- the bytes that were not read yet
abbrev pub bytes_left : MemSource → List ℕ
bytes_left source = drop source.place source.bytes.items

-- how many bytes a read gives at most, whatever is asked for
abbrev pub read_piece : MemSource → ℕ
read_piece source = source.piece

-- the numbers of the reads that fail
abbrev pub read_plan : MemSource → List ℕ
read_plan source = source.fails

-- how many reads it has had, up to `u64::MAX`: the number of the last one
abbrev pub reads_made : MemSource → ℕ
reads_made source = source.reads_made

-- how many of them failed
abbrev pub failed_reads : MemSource → ℕ
failed_reads source = source.faults
