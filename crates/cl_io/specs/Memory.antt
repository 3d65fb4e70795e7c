-- What contracts see of a source and a sink in memory.
use Rattle.std.specs.Prelude.{ℕ, List, Contains}
use Rattle.cl_io.specs.Faults.{one_more}

-- calls, numbered from 1, of which listed ones fail
pub record CallsState : Type 0 where
  -- the numbers of the calls that fail
  pub failing : List ℕ
  -- how many calls there were
  pub made : ℕ
  -- how many of them failed
  pub faults : ℕ

-- the next call is listed
abbrev pub FailsNext : CallsState → Type 0
FailsNext calls = Contains calls.failing (one_more calls.made)

-- after a call that did not fail
abbrev pub after_call : CallsState → CallsState
after_call calls = record calls { made = one_more calls.made }

-- after a call that failed
abbrev pub after_fault : CallsState → CallsState
after_fault calls = record calls { made = one_more calls.made; faults = one_more calls.faults }

-- a source in memory
pub record SourceState : Type 0 where
  -- the bytes that are left
  pub rest : List ℕ
  pub calls : CallsState

-- a sink in memory
pub record SinkState : Type 0 where
  -- the bytes that were written
  pub given : List ℕ
  pub calls : CallsState
