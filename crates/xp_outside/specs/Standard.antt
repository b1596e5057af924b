-- What the adapters of standard input and output stand for: a reader or a writer of std, and a
-- count of faults.
use Rattle.std.specs.Prelude.{ℕ}
use Rattle.xp_outside.specs.declared.standard.StdSource.{StdSource}
use Rattle.xp_outside.specs.declared.standard.StdSink.{StdSink}

-- the reader that a source adapts
abbrev pub reader_of : {R : Type 0} → StdSource R → R
reader_of source = source.inner

-- how often that reader failed
abbrev pub read_faults : {R : Type 0} → StdSource R → ℕ
read_faults source = source.faults

-- the writer that a sink adapts
abbrev pub writer_of : {W : Type 0} → StdSink W → W
writer_of sink = sink.inner

-- how often that writer failed, or took none of a piece that wasn't empty
abbrev pub write_faults : {W : Type 0} → StdSink W → ℕ
write_faults sink = sink.faults
