-- The logs of one more entry.
use Rattle.std.proofs.Common.{◌≡◌, ℕ, ◌+◌, ◌<◌, List, [], ◌∷◌, ◌++◌, length, map, take, get_or, sym, ap, ◌∙◌, arith}
use Rattle.std.specs.Map.{lookup}
use Rattle.std.specs.Ordering.{nat_cmp}
use Rattle.std.specs.BTreeMap.{is_at}
use Rattle.std.proofs.lemmas.List.{take_more, map-append, length-map, length-take}
use Rattle.cl_serial.specs.declared.transcript.Said.{Said}
use Rattle.cl_serial.specs.Transcript.{TranscriptEntry, gather, transcript_entry, asked_in, answered_in}
use Rattle.cl_serial.specs.Gathering.{SessionLog, logged, log_of, with_entry}
use Rattle.cl_serial.proofs.Gathered.{gather-push}
use Rattle.cl_serial.proofs.gathering.gather_logs.Goals as goal

-- the log of a session with one more entry
log_of-push : (session : ℕ) (xs : List TranscriptEntry) (y : TranscriptEntry) (position : ℕ) → length xs ≡ position → log_of session (xs ++ y ∷ []) ≡ with_entry session position y (log_of session xs)
log_of-push session xs y position is =
    (λ i. record { asked = gather-push (asked_in session) xs y i; given = gather-push (answered_in session) xs y i })
    ∙ ap (λ n. with_entry session n y (log_of session xs)) is

-- one more entry of the list
seen-push : (list : List Said) (i : ℕ) (x : Said) → i < length list → x ≡ get_or list i x → map transcript_entry (take (i + 1) list) ≡ map transcript_entry (take i list) ++ transcript_entry x ∷ []
seen-push list i x below is =
    ap (map transcript_entry) (take_more list i x below)
    ∙ map-append transcript_entry (take i list) (get_or list i x ∷ [])
    ∙ ap (λ y. map transcript_entry (take i list) ++ transcript_entry y ∷ []) (sym is)

seen-length : (list : List Said) (i : ℕ) → i < length list → length (map transcript_entry (take i list)) ≡ i
seen-length list i below = length-map (take i list) transcript_entry ∙ omega (arith, length-take i list)

log-step : (session : ℕ) (list : List Said) (i : ℕ) (x : Said) (old new : SessionLog) → i < length list → x ≡ get_or list i x → new ≡ with_entry session i (transcript_entry x) old
    → old ≡ log_of session (map transcript_entry (take i list)) → new ≡ log_of session (map transcript_entry (take (i + 1) list))
log-step session list i x old new below is step invariant =
    step ∙ ap (with_entry session i (transcript_entry x)) invariant
    ∙ sym (log_of-push session (map transcript_entry (take i list)) (transcript_entry x) i (seen-length list i below))
    ∙ ap (log_of session) (sym (seen-push list i x below is))

pub loop-index-init : goal.loop-index-init
unfolding gather
loop-index-init c session = ap (λ entries. logged (lookup (is_at (nat_cmp session)) entries)) c.new-logs.ensures.empty

pub loop-index-preserved : goal.loop-index-preserved
loop-index-preserved c session =
    log-step session _ _ c.entry-item.result _ _ c.loop-index-test.true c.entry-item.is (c.in_ok-add_entry.ensures session) (c.loop-index.invariant session)
