-- What was written of a text, by how its writing ended.
use Rattle.std.proofs.Common.{◌≡◌, ◌⊎◌, ℕ, ◌≤◌, true, false, inl, inr, List, [], length, take, Option, Result, Ok, Err, refl, sym, ap, ◌∙◌, arith}
use Rattle.std.specs.Prelude.{OnErr, OnOk, is_err}
use Rattle.std.proofs.lemmas.List.{take_all}
use Rattle.std.specs.Io.KnownBytes.{append_known}
use Rattle.cl_io.specs.Faults.{one_more}
use Rattle.cl_io.specs.Told.{AppendsPart}
use Rattle.cl_io.proofs.ToldLemmas.{append_known-nil}
use Rattle.clustra.specs.Run.{WritesAll, WritesText}
use Rattle.clustra.specs.RunEnds.{EndsSink}
use Rattle.clustra.specs.declared.ended.TheConstants.{DONE, READ_FAULT, WRITE_FAULT, TOO_MUCH_INPUT, NO_MEMORY, UNFINISHED, SPENT}

-- a sink to which nothing was written

-- the status of a run that wrote nothing
abbrev pub IsSilent : ℕ → Type 0
IsSilent status = (status ≡ READ_FAULT) ⊎ ((status ≡ TOO_MUCH_INPUT) ⊎ ((status ≡ NO_MEMORY) ⊎ (status ≡ SPENT)))

not_silent : (status other : ℕ) → (other ≡ DONE) ⊎ ((other ≡ WRITE_FAULT) ⊎ (other ≡ UNFINISHED)) → IsSilent status → status ≡ other → ⊥
not_silent status other (inl a) (inl b) same = absurd (omega (arith, a, b, same))
not_silent status other (inl a) (inr (inl b)) same = absurd (omega (arith, a, b, same))
not_silent status other (inl a) (inr (inr (inl b))) same = absurd (omega (arith, a, b, same))
not_silent status other (inl a) (inr (inr (inr b))) same = absurd (omega (arith, a, b, same))
not_silent status other (inr (inl a)) (inl b) same = absurd (omega (arith, a, b, same))
not_silent status other (inr (inl a)) (inr (inl b)) same = absurd (omega (arith, a, b, same))
not_silent status other (inr (inl a)) (inr (inr (inl b))) same = absurd (omega (arith, a, b, same))
not_silent status other (inr (inl a)) (inr (inr (inr b))) same = absurd (omega (arith, a, b, same))
not_silent status other (inr (inr a)) (inl b) same = absurd (omega (arith, a, b, same))
not_silent status other (inr (inr a)) (inr (inl b)) same = absurd (omega (arith, a, b, same))
not_silent status other (inr (inr a)) (inr (inr (inl b))) same = absurd (omega (arith, a, b, same))
not_silent status other (inr (inr a)) (inr (inr (inr b))) same = absurd (omega (arith, a, b, same))

module _ {K : Type 0} (written_of flushed_of : K → Option (List ℕ)) (faults_of : K → ℕ) (sink : K) (status : ℕ) (text : List ℕ) (silent : IsSilent status) where
  all_silent : ((status ≡ READ_FAULT) ⊎ (status ≡ TOO_MUCH_INPUT) → text ≡ []) →
      (status ≡ DONE) ⊎ ((status ≡ READ_FAULT) ⊎ ((status ≡ TOO_MUCH_INPUT) ⊎ (status ≡ UNFINISHED))) → WritesAll (written_of sink) (written_of sink) text
  all_silent none (inl done) = absurd (not_silent status DONE (inl refl) silent done)
  all_silent none (inr (inl failed)) = sym (ap (append_known (written_of sink)) (none (inl failed)) ∙ append_known-nil (written_of sink))
  all_silent none (inr (inr (inl stopped))) = sym (ap (append_known (written_of sink)) (none (inr stopped)) ∙ append_known-nil (written_of sink))
  all_silent none (inr (inr (inr unfinished))) = absurd (not_silent status UNFINISHED (inr (inr refl)) silent unfinished)

  flushed_silent : (status ≡ DONE) ⊎ (status ≡ UNFINISHED) → flushed_of sink ≡ written_of sink
  flushed_silent (inl done) = absurd (not_silent status DONE (inl refl) silent done)
  flushed_silent (inr unfinished) = absurd (not_silent status UNFINISHED (inr (inr refl)) silent unfinished)

  -- the sink is as it was
  pub sink_silent : ((status ≡ READ_FAULT) ⊎ (status ≡ TOO_MUCH_INPUT) → text ≡ []) → EndsSink written_of flushed_of faults_of sink sink status text
  sink_silent none = record {
    written = record { count = 0; appended = sym (append_known-nil (written_of sink)) };
    all = all_silent none;
    unwritten = λ ended. refl;
    flushed = flushed_silent;
    write_fault = λ failed. absurd (not_silent status WRITE_FAULT (inr (inl refl)) silent failed);
    unfaulted = λ other. refl;
    counted = omega arith;
  }

-- what was written

on_err : {T E P : Type 0} (r : Result T E) → true ≡ is_err r → OnErr r P → P
on_err (Ok x) is p = absurd (cc)
on_err (Err e) is p = p

on_ok : {T E P : Type 0} (r : Result T E) → false ≡ is_err r → OnOk r P → P
on_ok (Ok x) is p = p
on_ok (Err e) is p = absurd (cc)

module _ {K : Type 0} (written_of flushed_of : K → Option (List ℕ)) (faults_of : K → ℕ) (sink : K) (text : List ℕ) where
  none_of : (status : ℕ) (other : ℕ) → status ≡ other → (other ≡ NO_MEMORY) ⊎ (other ≡ WRITE_FAULT) → (status ≡ READ_FAULT) ⊎ (status ≡ TOO_MUCH_INPUT) → text ≡ []
  none_of status other is (inl a) (inl b) = absurd (omega (arith, is, a, b))
  none_of status other is (inl a) (inr b) = absurd (omega (arith, is, a, b))
  none_of status other is (inr a) (inl b) = absurd (omega (arith, is, a, b))
  none_of status other is (inr a) (inr b) = absurd (omega (arith, is, a, b))

  -- an allocation failed
  pub sink_short : EndsSink written_of flushed_of faults_of sink sink NO_MEMORY text
  sink_short = sink_silent written_of flushed_of faults_of sink NO_MEMORY text (inr (inr (inl refl))) (none_of NO_MEMORY NO_MEMORY refl (inl refl))

  all_failed : {P : Type 0} → (WRITE_FAULT ≡ DONE) ⊎ ((WRITE_FAULT ≡ READ_FAULT) ⊎ ((WRITE_FAULT ≡ TOO_MUCH_INPUT) ⊎ (WRITE_FAULT ≡ UNFINISHED))) → P
  all_failed (inl a) = absurd (omega (arith, a))
  all_failed (inr (inl a)) = absurd (omega (arith, a))
  all_failed (inr (inr (inl a))) = absurd (omega (arith, a))
  all_failed (inr (inr (inr a))) = absurd (omega (arith, a))

  unwritten_failed : {P : Type 0} → (WRITE_FAULT ≡ READ_FAULT) ⊎ ((WRITE_FAULT ≡ TOO_MUCH_INPUT) ⊎ ((WRITE_FAULT ≡ NO_MEMORY) ⊎ (WRITE_FAULT ≡ SPENT))) → P
  unwritten_failed (inl a) = absurd (omega (arith, a))
  unwritten_failed (inr (inl a)) = absurd (omega (arith, a))
  unwritten_failed (inr (inr (inl a))) = absurd (omega (arith, a))
  unwritten_failed (inr (inr (inr a))) = absurd (omega (arith, a))

  flushed_failed : {P : Type 0} → (WRITE_FAULT ≡ DONE) ⊎ (WRITE_FAULT ≡ UNFINISHED) → P
  flushed_failed (inl a) = absurd (omega (arith, a))
  flushed_failed (inr a) = absurd (omega (arith, a))

  sink_faulted : (sink' : K) → WritesText (written_of sink) (written_of sink') text → faults_of sink' ≡ one_more (faults_of sink) →
      faults_of sink ≤ faults_of sink' → EndsSink written_of flushed_of faults_of sink sink' WRITE_FAULT text
  sink_faulted sink' written fault counted = record {
    written = written;
    all = all_failed;
    unwritten = unwritten_failed;
    flushed = flushed_failed;
    write_fault = λ failed. fault;
    unfaulted = λ other. absurd (other refl);
    counted = counted;
  }

  -- a write failed
  pub sink_failed : {E : Type 0} (sink' : K) (piece : List ℕ) (write : Result (Unit {0}) E) → piece ≡ text → true ≡ is_err write →
      OnErr write (AppendsPart (written_of sink) (written_of sink') piece) →
      OnErr write (faults_of sink' ≡ one_more (faults_of sink)) → faults_of sink ≤ faults_of sink' →
      EndsSink written_of flushed_of faults_of sink sink' WRITE_FAULT text
  sink_failed sink' piece write same is part fault counted =
      let appends = on_err write is part in
      sink_faulted sink' (record {
        count = appends.count;
        appended = appends.appended
            ∙ ap (λ all. append_known (written_of sink) (take appends.count all)) same;
      }) (on_err write is fault) counted

  whole_text : (sink' : K) → written_of sink' ≡ append_known (written_of sink) text → WritesText (written_of sink) (written_of sink') text
  whole_text sink' written = record {
    count = length text;
    appended = written
        ∙ ap (append_known (written_of sink)) (sym (take_all (length text) text (omega arith)));
  }

  -- the flush failed
  pub sink_unflushed : {E : Type 0} (sink' sink'' : K) (piece : List ℕ) (write flush : Result (Unit {0}) E) → piece ≡ text → false ≡ is_err write →
      OnOk write (written_of sink' ≡ append_known (written_of sink) piece) → OnOk write (faults_of sink' ≡ faults_of sink) →
      true ≡ is_err flush → written_of sink'' ≡ written_of sink' → OnErr flush (faults_of sink'' ≡ one_more (faults_of sink')) →
      faults_of sink ≤ faults_of sink' → faults_of sink' ≤ faults_of sink'' → EndsSink written_of flushed_of faults_of sink sink'' WRITE_FAULT text
  sink_unflushed sink' sink'' piece write flush same is written unfaulted failed kept fault counted counted' =
      sink_faulted sink'' (whole_text sink'' (kept ∙ on_ok write is written ∙ ap (append_known (written_of sink)) same))
      (on_err flush failed fault ∙ ap one_more (on_ok write is unfaulted)) (omega arith)

  not_ended : (status : ℕ) (other : ℕ) → (status ≡ DONE) ⊎ (status ≡ UNFINISHED) →
      (other ≡ READ_FAULT) ⊎ ((other ≡ TOO_MUCH_INPUT) ⊎ ((other ≡ NO_MEMORY) ⊎ ((other ≡ SPENT) ⊎ (other ≡ WRITE_FAULT)))) → status ≡ other → ⊥
  not_ended status other (inl a) (inl b) same = absurd (omega (arith, a, b, same))
  not_ended status other (inl a) (inr (inl b)) same = absurd (omega (arith, a, b, same))
  not_ended status other (inl a) (inr (inr (inl b))) same = absurd (omega (arith, a, b, same))
  not_ended status other (inl a) (inr (inr (inr (inl b)))) same = absurd (omega (arith, a, b, same))
  not_ended status other (inl a) (inr (inr (inr (inr b)))) same = absurd (omega (arith, a, b, same))
  not_ended status other (inr a) (inl b) same = absurd (omega (arith, a, b, same))
  not_ended status other (inr a) (inr (inl b)) same = absurd (omega (arith, a, b, same))
  not_ended status other (inr a) (inr (inr (inl b))) same = absurd (omega (arith, a, b, same))
  not_ended status other (inr a) (inr (inr (inr (inl b)))) same = absurd (omega (arith, a, b, same))
  not_ended status other (inr a) (inr (inr (inr (inr b)))) same = absurd (omega (arith, a, b, same))

  unwritten_ended : {P : Type 0} (status : ℕ) → (status ≡ DONE) ⊎ (status ≡ UNFINISHED) →
      (status ≡ READ_FAULT) ⊎ ((status ≡ TOO_MUCH_INPUT) ⊎ ((status ≡ NO_MEMORY) ⊎ (status ≡ SPENT))) → P
  unwritten_ended status ended (inl a) = absurd (not_ended status READ_FAULT ended (inl refl) a)
  unwritten_ended status ended (inr (inl a)) = absurd (not_ended status TOO_MUCH_INPUT ended (inr (inl refl)) a)
  unwritten_ended status ended (inr (inr (inl a))) = absurd (not_ended status NO_MEMORY ended (inr (inr (inl refl))) a)
  unwritten_ended status ended (inr (inr (inr a))) = absurd (not_ended status SPENT ended (inr (inr (inr (inl refl)))) a)

  -- all of it was written, and flushed
  pub sink_written : {E : Type 0} (sink' sink'' : K) (piece : List ℕ) (write flush : Result (Unit {0}) E) (status : ℕ) →
      (status ≡ DONE) ⊎ (status ≡ UNFINISHED) → piece ≡ text → false ≡ is_err write → OnOk write (written_of sink' ≡ append_known (written_of sink) piece) →
      OnOk write (faults_of sink' ≡ faults_of sink) → false ≡ is_err flush → written_of sink'' ≡ written_of sink' →
      OnOk flush (flushed_of sink'' ≡ written_of sink'') → OnOk flush (faults_of sink'' ≡ faults_of sink') →
      EndsSink written_of flushed_of faults_of sink sink'' status text
  sink_written sink' sink'' piece write flush status ended same is written unfaulted done kept flushed unfaulted' =
      let all : written_of sink'' ≡ append_known (written_of sink) text = kept ∙ on_ok write is written ∙ ap (append_known (written_of sink)) same in
      let none : faults_of sink'' ≡ faults_of sink = on_ok flush done unfaulted' ∙ on_ok write is unfaulted in
      record {
        written = whole_text sink'' all;
        all = λ either. all;
        unwritten = unwritten_ended status ended;
        flushed = λ either. on_ok flush done flushed;
        write_fault = λ failed. absurd (not_ended status WRITE_FAULT ended (inr (inr (inr (inr refl)))) failed);
        unfaulted = λ other. none;
        counted = omega (arith, none);
      }
