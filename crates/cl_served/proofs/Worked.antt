-- An operation is done, or refused: the answer on its way back says so.
use Rattle.std.proofs.Common.{◌≡◌, ℕ, ◌<◌, Bool, true, false, cond, inr, List, [], ◌∷◌, ◌++◌, All, Option, Some, None, refl, sym, ap, ◌∙◌, subst, subst₂}
use Rattle.std.proofs.lemmas.Bool.{cond_both, and_parts, eqb-true}
use Rattle.std.proofs.lemmas.List.{append-nil}
use Rattle.std.proofs.lemmas.List.Elements.{All-nil, All-cons, All-head, All-tail}
use Rattle.cl_commit.specs.Life.{Lives}
use Rattle.cl_exchange.proofs.Delivered.{IsAtSome}
use Rattle.cl_exchange.specs.Stage.{view_of, working, last_begun}
use Rattle.cl_ledger.proofs.Keeping.{KeepsLog, IsAt-keeps}
use Rattle.cl_ledger.specs.Ledgers.{message_steps}
use Rattle.cl_lone.specs.Lone.{lone_step}
use Rattle.cl_node.specs.Addressing.{home_in}
use Rattle.cl_order.specs.Ledger.{Ledger, stored_at}
use Rattle.cl_order.specs.Steps.{after_steps, carry_out, operation_now}
use Rattle.cl_part.proofs.Following.{answers_are_noted}
use Rattle.cl_part.specs.Calls.{refusing, answer_by, ask_op}
use Rattle.cl_part.specs.Laws.{steps_of, step_asked}
use Rattle.cl_runs.specs.World.{Shape}
use Rattle.cl_serial.specs.PlainMap.{Operation}
use Rattle.cl_serial.specs.Transactions.{Session}
use Rattle.cl_steps.specs.declared.steps.Outgoing.{Outgoing}
use Rattle.cl_steps.specs.Steps.{sent}
use Rattle.cl_system.specs.Replicas.{ReplicaWorld, Mail, own_primary, with_mail, with_way, replica_acts}
use Rattle.cl_system.specs.Roles.{IsAddressed}
use Rattle.cl_told.specs.Told.{told_session, pending, IsTold}
use Rattle.cl_types.proofs.Transactions.{same_txn-true, same_txn-itself}
use Rattle.cl_types.specs.Placement.{IsNodeCount}
use Rattle.cl_types.specs.Places.{Place}
use Rattle.cl_types.specs.Plain.{plain_reply}
use Rattle.cl_types.specs.Transactions.{same_txn}
use Rattle.cl_types.specs.declared.answers.Answer.{Answer as OpAnswer}
use Rattle.cl_types.specs.declared.answers.Answer.TheVariants as answers
use Rattle.cl_types.specs.declared.answers.Reply.{Reply}
use Rattle.cl_types.specs.declared.operations.Command.{Command as ClientCommand}
use Rattle.cl_types.specs.declared.operations.Op.{Op}
use Rattle.cl_types.specs.declared.operations.TxnId.{TxnId}
use Rattle.cl_vnode.specs.Step.{asked}
use Rattle.cl_wire.specs.Message.{Content, Ask, Answer}
use Rattle.cl_served.proofs.Asking.{outstanding_number, alone, asked_working}
use Rattle.cl_served.proofs.Sessions.{next_number}
use Rattle.cl_served.proofs.Serving.{told_done, IsOneMore, ServesAnswer, ServesMessage, IsServedBy, IsServed, All-popped, All-added}

module _ (shape : Shape) (counted : IsNodeCount shape.nodes) (world : ReplicaWorld) (ledger : Ledger) (txn : TxnId) (v : ℕ) (below : v < shape.nodes)
    (kept : KeepsLog ledger v (world.replicas v).part)
    (number : ℕ) (table key : List ℕ) (op : Op) (rest : List Content) (here : world.mail (home_in shape.nodes txn) v ≡ Ask v txn number table key op ∷ rest)
    (addressed : (a b : ℕ) → All (IsAddressed shape.nodes a b) (world.mail a b)) (place_is : ledger.on (table, key) ≡ v) where
  abbrev home : ℕ
  home = home_in shape.nodes txn

  abbrev content : Content
  content = Ask v txn number table key op

  abbrev place : Place
  place = (table, key)

  abbrev reply : Reply
  reply = plain_reply op (stored_at ledger place).1

  abbrev left_mail : Mail
  left_mail = with_way world.mail home v rest

  -- what is on its way once the answer was sent
  abbrev next_mail : OpAnswer → Mail
  next_mail answer = with_mail left_mail v (sent home (Answer v txn number answer) ∷ [])

  left_addressed : (a b : ℕ) → All (IsAddressed shape.nodes a b) (left_mail a b)
  left_addressed a b = cond_both _ rest (world.mail a b) (All (IsAddressed shape.nodes a b))
      (λ at. let both = and_parts _ _ at in
      subst₂ (λ x y. All (IsAddressed shape.nodes x y) rest) (sym (eqb-true a home both.1)) (sym (eqb-true b v both.0))
      (All-tail (IsAddressed shape.nodes home v) content rest (subst (All (IsAddressed shape.nodes home v)) here (addressed home v))))
      (λ elsewhere. addressed a b)

  module _ (name : TxnId) (served : IsServed world ledger.done name) where
    abbrev left : List ClientCommand
    left = pending name.session world.front.transcript

    abbrev told : Session
    told = told_session name.session world.front.transcript

    says : ServesMessage left served.extra name content
    says = All-head (ServesMessage left served.extra name) content rest (subst (All (ServesMessage left served.extra name)) here (served.messages home v))

    -- the answer is sent, and the transaction has done no more
    unmoved : (answer : OpAnswer) → (txn ≡ name → ServesAnswer left served.extra answer) →
        IsServedBy world.front.transcript (next_mail answer) (ledger.done name) name
    unmoved answer fits = record {
      extra = served.extra;
      done_is = served.done_is;
      is_extra = served.is_extra;
      messages = All-added (ServesMessage left served.extra name) left_mail v (sent home (Answer v txn number answer) ∷ [])
          (All-popped (ServesMessage left served.extra name) world.mail home v content rest here served.messages)
          (All-cons (λ (send : Outgoing). ServesMessage left served.extra name send.payload) (sent home (Answer v txn number answer)) [] fits
          (All-nil (λ (send : Outgoing). ServesMessage left served.extra name send.payload)));
    }

    -- its own operation was done
    own_done : txn ≡ name → name.number ≡ next_number told → ((extra : List Operation) (a b : ℕ) → All (ServesMessage left extra name) (left_mail a b)) →
        IsServedBy world.front.transcript (next_mail (answers.Done reply)) (ledger.done name ++ operation_now ledger place op ∷ []) name
    own_done same number_is quiet =
        let both = says same in
        let extra : List Operation = operation_now ledger place op ∷ [] in
        let one : IsOneMore left extra reply = (table, key, op, both.1.0, both.1.1, refl) in
        record {
          extra = extra;
          done_is = ap (λ list. list ++ extra) (served.done_is ∙ ap (λ list. told_done told name.number ++ list) both.0
              ∙ append-nil (told_done told name.number));
          is_extra = inr (reply, one, number_is);
          messages = All-added (ServesMessage left extra name) left_mail v (sent home (Answer v txn number (answers.Done reply)) ∷ []) (quiet extra)
              (All-cons (λ (send : Outgoing). ServesMessage left extra name send.payload) (sent home (Answer v txn number (answers.Done reply))) [] (λ it. one)
              (All-nil (λ (send : Outgoing). ServesMessage left extra name send.payload)));
        }

    by_refusal : (txn ≡ name → (name.number ≡ next_number told) × ((extra : List Operation) (a b : ℕ) → All (ServesMessage left extra name) (left_mail a b))) →
        (refused : Option TxnId) →
        IsServedBy world.front.transcript (next_mail (answer_by refused reply))
        ((after_steps ledger (step_asked refused (carry_out txn place op))).done name) name
    by_refusal own (Some holder) = unmoved (answers.Refused holder) (λ same. (says same).0)
    by_refusal own None = by (same_txn name txn) refl
      where
        by : (b : Bool) → same_txn name txn ≡ b →
            IsServedBy world.front.transcript (next_mail (answers.Done reply))
            (cond b (ledger.done name ++ operation_now ledger place op ∷ []) (ledger.done name)) name
        by true is_own = let same = sym (same_txn-true name txn is_own) in own_done same (own same).0 (own same).1
        by false another = unmoved (answers.Done reply)
            (λ same. absurd (let no : true ≡ false = sym (same_txn-itself name) ∙ ap (same_txn name) (sym same) ∙ another in cc))

  -- the session of the transaction is at this operation
  own_facts : Lives shape world txn → IsAtSome shape.nodes world txn.session → IsTold shape world txn.session →
      (txn.number ≡ next_number (told_session txn.session world.front.transcript)) × ((extra : List Operation) (a b : ℕ) →
      All (ServesMessage (pending txn.session world.front.transcript) extra txn) (left_mail a b))
  own_facts lives at tells =
      let counted_as = asked_working shape counted world txn lives at v below number table key op rest here in
      let told_so = tells.tells (working counted_as.current counted_as.entry) counted_as.working in
      let named : txn ≡ last_begun txn.session (view_of shape.nodes world txn.session).session = counted_as.named ∙ counted_as.working.of in (
        ap (λ (t : TxnId). t.number) named ∙ outstanding_number (told_session txn.session world.front.transcript)
            (view_of shape.nodes world txn.session).session counted_as.current told_so.0 told_so.2,
        λ extra. alone shape counted world txn lives at v below number table key op rest here (pending txn.session world.front.transcript) extra left_addressed,
      )

  pub ask_served : Lives shape world txn → IsAtSome shape.nodes world txn.session → IsTold shape world txn.session → (name : TxnId) →
      IsServed world ledger.done name → (mark : Bool) →
      IsServed (replica_acts (record world { mail = left_mail }) v (lone_step own_primary (world.replicas v) home content mark))
      (after_steps ledger (message_steps v (world.replicas v) content mark)).done name
  unfolding lone_step asked
  ask_served lives at tells name served true = unmoved name served answers.NoMemory (λ same. (says name served same).0)
  ask_served lives at tells name served false =
      subst (λ answer. IsServedBy world.front.transcript (next_mail answer)
      ((after_steps ledger (steps_of v (world.replicas v).part (ask_op txn place op))).done name) name)
      (sym (answers_are_noted ledger v (world.replicas v).part txn place op
      (IsAt-keeps ledger v (world.replicas v).part kept) place_is))
      (by_refusal name served (λ same. subst (λ (t : TxnId). (t.number ≡ next_number (told_session t.session world.front.transcript))
      × ((extra : List Operation) (a b : ℕ) → All (ServesMessage (pending t.session world.front.transcript) extra t) (left_mail a b))) same
      (own_facts lives at tells)) (refusing (world.replicas v).part txn place op))
