-- What a caller sees of a source over a reader and of a sink over a writer.
use Rattle.std.specs.Prelude.{ℕ}
use Rattle.par_io.specs.declared.standard.StdSource.{StdSource}
use Rattle.par_io.specs.declared.standard.StdSink.{StdSink}

-- the reader under a source
abbrev pub reader_of : {R : Type 0} → StdSource R → R
reader_of s = s.reader

-- how many of its reads failed
abbrev pub read_faults : {R : Type 0} → StdSource R → ℕ
read_faults s = s.faults

-- the writer under a sink
abbrev pub writer_of : {W : Type 0} → StdSink W → W
writer_of s = s.writer

-- how many of its writes and flushes failed
abbrev pub write_faults : {W : Type 0} → StdSink W → ℕ
write_faults s = s.faults
