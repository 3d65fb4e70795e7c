-- The sessions of a front.
use Rattle.std.specs.Prelude.{ℕ, ◌-◌, ◌==◌, Bool, ◌&&◌, not, List, slice_index_or, slice_set}
use Rattle.std.specs.List.{list_any}
use Rattle.cl_types.specs.Names.{is_between}
use Rattle.cl_types.specs.declared.limits.TheConstants.{SESSIONS_MAX}
use Rattle.cl_types.specs.declared.operations.TxnId.{TxnId}
use Rattle.cl_front.specs.Session.{SessionState, no_session, is_busy, is_awaited_in}

-- the session of a number: session 1 stands first
abbrev pub session_in : List SessionState → ℕ → SessionState
session_in sessions s = slice_index_or sessions (s - 1) no_session

-- the sessions, one of them changed
abbrev pub with_session : List SessionState → ℕ → SessionState → List SessionState
with_session sessions s session = slice_set sessions (s - 1) session

-- whether the transaction is that of its session, and its command of this number waits for its outcome
abbrev pub is_awaited : List SessionState → TxnId → ℕ → Bool
is_awaited sessions txn number = is_between 1 SESSIONS_MAX txn.session
    && ((session_in sessions txn.session).begun == txn.number) && is_awaited_in (session_in sessions txn.session).current number

-- whether each command that was fed was answered
abbrev pub are_answered : List SessionState → Bool
are_answered sessions = not (list_any is_busy sessions)
