-- What contracts see of a reader and of a writer of std as a source and a sink.
use Rattle.std.specs.Prelude.{ℕ}
use Rattle.cl_io.specs.declared.std_source.StdSource.{StdSource}
use Rattle.cl_io.specs.declared.std_sink.StdSink.{StdSink}

-- the reader that a source reads from
abbrev pub reader : {R : Type 0} → StdSource R → R
reader source = source.input

-- how many faults the source had
abbrev pub source_faults : {R : Type 0} → StdSource R → ℕ
source_faults source = source.errors

-- the writer that a sink writes to
abbrev pub writer : {W : Type 0} → StdSink W → W
writer sink = sink.output

-- how many faults the sink had
abbrev pub sink_faults : {W : Type 0} → StdSink W → ℕ
sink_faults sink = sink.errors
