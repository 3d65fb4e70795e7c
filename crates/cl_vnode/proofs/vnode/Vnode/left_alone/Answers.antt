-- The replica makes its log safe by itself, and what waited is told.
use Rattle.std.proofs.Common.{◌≡◌, ℕ, ◌-◌, List, ◌++◌, ap, ◌∙◌, subst}
use Rattle.cl_log.specs.LogEntry.{LogEntry}
use Rattle.cl_log.specs.Log.{entries, next_number}
use Rattle.cl_repair.specs.Modes.{after_alone}
use Rattle.cl_steps.specs.Steps.{Step, nothing_done}
use Rattle.cl_vnode.specs.Noting.{decides_in, alone}
use Rattle.cl_vnode.specs.Replica.{safe_number}
use Rattle.cl_vnode.specs.Sending.{HasStepped, primary_of}
use Rattle.cl_vnode.specs.Step.{Stepped, all_told, entries_between}
use Rattle.cl_vnode.proofs.vnode.Vnode.left_alone.Goals as goal

pub returns : goal.returns
returns c state is =
    let primary : ℕ → ℕ = primary_of c.args.roster.now in
    let safe : c.safe_number-safe.result ≡ safe_number state = c.safe_number-safe.ensures state is in
    let log : List LogEntry = entries c.args.self.now.part.log in
    let last : ℕ = next_number c.args.self.now.part.log - 1 in
    let waited : List LogEntry = entries_between (safe_number state) (state.part.next - 1) state.part.log in
    let before : Stepped = record { state = alone state; step = record nothing_done { firm = decides_in waited } } in
    let decides : entries_between c.safe_number-safe.result last log ≡ waited =
    ap (λ n. entries_between n last log) safe
    ∙ ap (λ n. entries_between (safe_number state) (n - 1) log) is.part.next
    ∙ ap (λ (es : List LogEntry). entries_between (safe_number state) (state.part.next - 1) es) is.part.log in
    subst (λ n. HasStepped c.tell_safe.new.self c.tell_safe.new.steps (all_told primary n before)) safe
    (c.in_ok-tell_safe.ensures.step before (record {
      state = record {
        v = is.v;
        part = is.part;
        control = is.control;
        modes = c.go_on_alone.ensures ∙ ap after_alone is.modes;
        decisions = is.decisions;
      };
      step = c.in_ok-tell_firm_after.ensures
          ∙ ap (λ (s : Step). record s { firm = s.firm ++ decides_in (entries_between c.safe_number-safe.result last log) }) c.new-steps.ensures
          ∙ ap (λ (es : List LogEntry). record nothing_done { firm = decides_in es }) decides;
    }))
