-- The state has the sessions and the transcript.
use Rattle.std.proofs.Common.{refl, All, sym, subst, List}
use Rattle.cl_front.specs.Front.{FrontState}
use Rattle.cl_front.specs.Session.{SessionState, HasNextNumber}
use Rattle.cl_front.proofs.Admitting.{all_ready, ready_all}
use Rattle.cl_front.proofs.front_core.FrontCore.is_ready.Goals as goal

pub returns-then-is_settled-clause-told : goal.returns-then-is_settled-clause-told
returns-then-is_settled-clause-told c is =
    let state : FrontState = record { sessions = c.args.self.now.sessions; transcript = c.args.self.now.recorder.transcript } in
    (state, record { sessions = refl; transcript = refl; settled = c.is_settled.ensures.0 c.if-is_settled.true }, all_ready _ (c.have_next_numbers.ensures.told is))

pub returns-then-is_settled-clause-refused : goal.returns-then-is_settled-clause-refused
returns-then-is_settled-clause-refused c state is ready = c.have_next_numbers.ensures.refused
    (subst (λ (sessions : List SessionState). All (λ (session : SessionState). HasNextNumber session.current) sessions) (sym is.sessions) (ready_all state ready))
