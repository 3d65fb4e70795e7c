-- How far a transaction is in a log, once a record is appended.
use Rattle.std.proofs.Common.{◌≡◌, ℕ, Bool, true, false, cond, not, ◌&&◌, ◌||◌, inl, inr, List, [], ◌∷◌, ◌++◌, refl, sym, ap, ◌∙◌}
use Rattle.std.proofs.lemmas.Bool.{true≢false, cases_Bool, or_left, or_right, false_from_ne_true}
use Rattle.cl_types.specs.declared.operations.TxnId.{TxnId}
use Rattle.cl_types.proofs.Transactions.{same_txn-itself}
use Rattle.cl_log.specs.declared.records.LogRec.{LogRec}
use Rattle.cl_log.specs.declared.records.LogRec.TheVariants.{Touch, Set, Add, Comp, Prepared as PreparedRecord, End, Decide}
use Rattle.cl_log.specs.declared.stage.Stage.TheVariants.{Unknown, Running, Prepared, Ended}
use Rattle.cl_log.specs.Kind.{is_of, opens, is_prepared, is_end}
use Rattle.cl_log.specs.LogEntry.{LogEntry}
use Rattle.cl_log.specs.Open.{has_record, has_begun, has_prepared, has_ended, stage_of}
use Rattle.cl_log.proofs.Open.{cong_stage, has_begun_push-own, has_begun_push-other, has_prepared_push-own, has_prepared_push-other, has_ended_push-own, has_ended_push-other, or_false}
use Rattle.cl_commit.specs.Standing.{IsUnprepared}

-- a Prepared opens its transaction
opens-prepared : (content : LogRec) → is_prepared content ≡ true → opens content ≡ true
opens-prepared (PreparedRecord txn) h = refl
opens-prepared (Touch txn table key mode) h = refl
opens-prepared (Set txn table key before old new) h = refl
opens-prepared (Add txn table key before amount) h = refl
opens-prepared (Comp txn table key before undone form) h = h
opens-prepared (End txn commit) h = h
opens-prepared (Decide txn) h = h

-- who has a Prepared has begun
prepared-begun : (log : List LogEntry) (txn : TxnId) → has_prepared log txn ≡ true → has_begun log txn ≡ true
unfolding has_begun has_prepared
prepared-begun [] txn h = h
prepared-begun (x ∷ xs) txn h = by (prepared-begun xs txn) (is_of txn x.content) (is_prepared x.content) refl h
  where
    by : (has_record is_prepared txn xs ≡ true → has_record opens txn xs ≡ true) → (own is : Bool) → is_prepared x.content ≡ is → ((own && is) || has_record is_prepared txn xs) ≡ true →
        ((own && opens x.content) || has_record opens txn xs) ≡ true
    by rest true true e k = or_left _ _ (opens-prepared x.content e)
    by rest true false e k = or_right _ _ (rest k)
    by rest false is e k = rest k

-- ---- a stage and its three tests

-- what a log has of a transaction
pub record Tests (log : List LogEntry) (txn : TxnId) (begun ended prepared : Bool) : Type 0 where
  pub begun_is : has_begun log txn ≡ begun
  pub ended_is : has_ended log txn ≡ ended
  pub prepared_is : has_prepared log txn ≡ prepared

stage-tests : (log : List LogEntry) (txn : TxnId) (begun ended prepared : Bool) → Tests log txn begun ended prepared →
    stage_of log txn ≡ cond (not begun) Unknown (cond ended Ended (cond prepared Prepared Running))
stage-tests log txn begun ended prepared t = cong_stage t.begun_is t.ended_is t.prepared_is

pub stage-running : (log : List LogEntry) (txn : TxnId) → Tests log txn true false false → stage_of log txn ≡ Running
stage-running log txn t = stage-tests log txn true false false t

pub stage-prepared : (log : List LogEntry) (txn : TxnId) → Tests log txn true false true → stage_of log txn ≡ Prepared
stage-prepared log txn t = stage-tests log txn true false true t

pub stage-ended : (log : List LogEntry) (txn : TxnId) (prepared : Bool) → Tests log txn true true prepared → stage_of log txn ≡ Ended
stage-ended log txn prepared t = stage-tests log txn true true prepared t

pub tests-running : (log : List LogEntry) (txn : TxnId) → stage_of log txn ≡ Running → Tests log txn true false false
tests-running log txn h = by (has_begun log txn) (has_ended log txn) (has_prepared log txn) refl refl refl h
  where
    by : (begun ended prepared : Bool) → has_begun log txn ≡ begun → has_ended log txn ≡ ended → has_prepared log txn ≡ prepared →
        cond (not begun) Unknown (cond ended Ended (cond prepared Prepared Running)) ≡ Running → Tests log txn true false false
    by false ended prepared b e p k = absurd (cc)
    by true true prepared b e p k = absurd (cc)
    by true false true b e p k = absurd (cc)
    by true false false b e p k = record { begun_is = b; ended_is = e; prepared_is = p }

pub tests-prepared : (log : List LogEntry) (txn : TxnId) → stage_of log txn ≡ Prepared → Tests log txn true false true
tests-prepared log txn h = by (has_begun log txn) (has_ended log txn) (has_prepared log txn) refl refl refl h
  where
    by : (begun ended prepared : Bool) → has_begun log txn ≡ begun → has_ended log txn ≡ ended → has_prepared log txn ≡ prepared →
        cond (not begun) Unknown (cond ended Ended (cond prepared Prepared Running)) ≡ Prepared → Tests log txn true false true
    by false ended prepared b e p k = absurd (cc)
    by true true prepared b e p k = absurd (cc)
    by true false false b e p k = absurd (cc)
    by true false true b e p k = record { begun_is = b; ended_is = e; prepared_is = p }

pub begun-unknown : (log : List LogEntry) (txn : TxnId) → stage_of log txn ≡ Unknown → has_begun log txn ≡ false
begun-unknown log txn h = by (has_begun log txn) (has_ended log txn) (has_prepared log txn) h
  where
    by : (begun ended prepared : Bool) → cond (not begun) Unknown (cond ended Ended (cond prepared Prepared Running)) ≡ Unknown → begun ≡ false
    by false ended prepared k = refl
    by true true prepared k = absurd (cc)
    by true false true k = absurd (cc)
    by true false false k = absurd (cc)

-- who has ended has begun
abbrev pub EndedHaveBegun : List LogEntry → Type 0
EndedHaveBegun log = (txn : TxnId) → has_ended log txn ≡ true → has_begun log txn ≡ true

-- before it is prepared a transaction has neither a Prepared nor an End
pub unprepared-not_prepared : (log : List LogEntry) (txn : TxnId) → IsUnprepared (stage_of log txn) → has_prepared log txn ≡ false
unprepared-not_prepared log txn (inl running) = (tests-running log txn running).prepared_is
unprepared-not_prepared log txn (inr unknown) = false_from_ne_true _ (λ t. true≢false (sym (prepared-begun log txn t) ∙ begun-unknown log txn unknown))

pub unprepared-not_ended : (log : List LogEntry) (txn : TxnId) → EndedHaveBegun log → IsUnprepared (stage_of log txn) → has_ended log txn ≡ false
unprepared-not_ended log txn sound (inl running) = (tests-running log txn running).ended_is
unprepared-not_ended log txn sound (inr unknown) = false_from_ne_true _ (λ t. true≢false (sym (sound txn t) ∙ begun-unknown log txn unknown))

-- ---- a record more

module _ (log : List LogEntry) (entry : LogEntry) where
  -- a record of another transaction leaves the stage
  pub stage_push-other : (txn : TxnId) → is_of txn entry.content ≡ false → stage_of (log ++ entry ∷ []) txn ≡ stage_of log txn
  stage_push-other txn other = cong_stage (has_begun_push-other txn log entry other) (has_ended_push-other txn log entry other) (has_prepared_push-other txn log entry other)

  -- a test of the log that the record does not pass
  begun_push-idle : (txn : TxnId) → opens entry.content ≡ false → has_begun (log ++ entry ∷ []) txn ≡ has_begun log txn
  begun_push-idle txn closed = elim (cases_Bool (is_of txn entry.content)) [
    | inl own ↦ has_begun_push-own txn log entry own ∙ ap (λ b. has_begun log txn || b) closed ∙ or_false _
    | inr other ↦ has_begun_push-other txn log entry other
  ]

  pub ended_push-idle : (txn : TxnId) → is_end entry.content ≡ false → has_ended (log ++ entry ∷ []) txn ≡ has_ended log txn
  ended_push-idle txn open_still = elim (cases_Bool (is_of txn entry.content)) [
    | inl own ↦ has_ended_push-own txn log entry own ∙ ap (λ b. has_ended log txn || b) open_still ∙ or_false _
    | inr other ↦ has_ended_push-other txn log entry other
  ]

  prepared_push-idle : (txn : TxnId) → is_prepared entry.content ≡ false → has_prepared (log ++ entry ∷ []) txn ≡ has_prepared log txn
  prepared_push-idle txn unprepared = elim (cases_Bool (is_of txn entry.content)) [
    | inl own ↦ has_prepared_push-own txn log entry own ∙ ap (λ b. has_prepared log txn || b) unprepared ∙ or_false _
    | inr other ↦ has_prepared_push-other txn log entry other
  ]

  -- who had begun has begun
  pub begun_push : (txn : TxnId) → has_begun log txn ≡ true → has_begun (log ++ entry ∷ []) txn ≡ true
  begun_push txn begun = elim (cases_Bool (is_of txn entry.content)) [
    | inl own ↦ has_begun_push-own txn log entry own ∙ or_left _ _ begun
    | inr other ↦ has_begun_push-other txn log entry other ∙ begun
  ]

  -- what neither opens, prepares nor ends leaves each stage
  pub record IsIdleRecord : Type 0 where
    pub opens_none : opens entry.content ≡ false
    pub ends_none : is_end entry.content ≡ false
    pub prepares_none : is_prepared entry.content ≡ false

  pub tests_push-idle : IsIdleRecord → (txn : TxnId) → Tests (log ++ entry ∷ []) txn (has_begun log txn) (has_ended log txn) (has_prepared log txn)
  tests_push-idle idle txn = record { begun_is = begun_push-idle txn idle.opens_none; ended_is = ended_push-idle txn idle.ends_none; prepared_is = prepared_push-idle txn idle.prepares_none }

  -- the first record of a transaction, or a further one of an operation: it runs
  pub stage_push-operation : (txn : TxnId) → is_of txn entry.content ≡ true → opens entry.content ≡ true → is_end entry.content ≡ false → is_prepared entry.content ≡ false →
      has_ended log txn ≡ false → has_prepared log txn ≡ false → stage_of (log ++ entry ∷ []) txn ≡ Running
  stage_push-operation txn own opened on unprepared not_ended not_prepared = stage-running (log ++ entry ∷ []) txn (record {
    begun_is = has_begun_push-own txn log entry own ∙ or_right _ _ opened;
    ended_is = ended_push-idle txn on ∙ not_ended;
    prepared_is = prepared_push-idle txn unprepared ∙ not_prepared;
  })

-- a Prepared of a running transaction
pub stage_push-prepared : (log : List LogEntry) (number : ℕ) (txn : TxnId) → stage_of log txn ≡ Running → stage_of (log ++ record { number = number; content = PreparedRecord txn } ∷ []) txn ≡ Prepared
stage_push-prepared log number txn running =
    let t = tests-running log txn running in
    let own = same_txn-itself txn in
    stage-prepared _ txn (record {
      begun_is = has_begun_push-own txn log (record { number = number; content = PreparedRecord txn }) own ∙ or_right _ _ refl;
      ended_is = has_ended_push-own txn log (record { number = number; content = PreparedRecord txn }) own ∙ or_false _ ∙ t.ended_is;
      prepared_is = has_prepared_push-own txn log (record { number = number; content = PreparedRecord txn }) own ∙ or_right _ _ refl;
    })

-- an End of one that has begun
pub stage_push-end : (log : List LogEntry) (number : ℕ) (txn : TxnId) (commit : Bool) → has_begun log txn ≡ true → stage_of (log ++ record { number = number; content = End txn commit } ∷ []) txn ≡ Ended
stage_push-end log number txn commit begun =
    let own = same_txn-itself txn in
    let end : LogEntry = record { number = number; content = End txn commit } in
    stage-ended (log ++ end ∷ []) txn (has_prepared (log ++ end ∷ []) txn) (record {
      begun_is = has_begun_push-own txn log end own ∙ or_left _ _ begun;
      ended_is = has_ended_push-own txn log end own ∙ or_right _ _ refl;
      prepared_is = refl;
    })
