-- What the acts of a controller tell the front.
use Rattle.std.proofs.Common.{◌≡◌, ◌≢◌, ℕ, zero, suc, ◌+◌, ◌<◌, ◌≤◌, Bool, true, false, ◌||◌, cond, eqb, List, [], ◌∷◌, ◌++◌, map, filter, Option, Some, None, refl, sym, ap, ◌∙◌, arith}
use Rattle.std.specs.List.{range_with_len}
use Rattle.std.proofs.lemmas.Bool.{cond-false, cond-true, ne_eqb, eq-eqb}
use Rattle.std.proofs.lemmas.List.{append-nil}
use Rattle.cl_control.specs.declared.acts.Act.{Act}
use Rattle.cl_control.specs.declared.acts.Act.TheVariants as acts
use Rattle.cl_control.specs.State.{is_among}
use Rattle.cl_endpoint.specs.Laws.{contents_to}
use Rattle.cl_exchange.specs.Stage.{is_of_session}
use Rattle.cl_lone.specs.Lone.{message_of, messages_of}
use Rattle.cl_steps.specs.declared.actors.TheConstants.{FRONT}
use Rattle.cl_steps.specs.declared.steps.Outgoing.{Outgoing}
use Rattle.cl_steps.specs.Steps.{sent}
use Rattle.cl_system.specs.Replicas.{own_primary}
use Rattle.cl_types.specs.declared.answers.Outcome.{Outcome as CommandOutcome}
use Rattle.cl_types.specs.declared.operations.TxnId.{TxnId}
use Rattle.cl_vnode.specs.Inputs.{is_decide, has_decide}
use Rattle.cl_wire.specs.Message as message
use Rattle.cl_wire.specs.Message.{Content, Outcome}

-- what acts tell the front
abbrev pub told_by : List Act → List Content
told_by list = contents_to FRONT (messages_of own_primary list)

-- a message that goes elsewhere
pub told_elsewhere : (v : ℕ) (content : Content) → v < FRONT → contents_to FRONT (sent v content ∷ []) ≡ []
told_elsewhere v content below = ap (λ sends. map (λ (send : Outgoing). send.payload) sends) (cond-false (eqb v FRONT) (sent v content ∷ []) [] (ne_eqb v FRONT (λ e. absurd (omega arith))))

-- one act that tells a virtual node
pub record IsNotice (act : ℕ → Act) (payload : ℕ → Content) : Type 0 where
  pub gives : (v : ℕ) → message_of own_primary (act v) ≡ sent v (payload v) ∷ []
  pub none : (v : ℕ) → is_decide (act v) ≡ false

module _ (act : ℕ → Act) (payload : ℕ → Content) (is : IsNotice act payload) (list : List Act) (vs : List ℕ) where
  next_told : (v : ℕ) (behind : List ℕ) → v < FRONT → told_by (map act (v ∷ behind) ++ list) ≡ told_by (map act behind ++ list)
  next_told v behind below =
      ap (λ (given : List Outgoing). contents_to FRONT (given ++ messages_of own_primary (map act behind ++ list))) (is.gives v)
      ∙ ap (λ sends. map (λ (send : Outgoing). send.payload) sends) (cond-false (eqb v FRONT) _ _ (ne_eqb v FRONT (λ e. absurd (omega arith))))

  pub notices_told : (from n : ℕ) → from + n ≤ FRONT → told_by (map act (filter (λ v. is_among v vs) (range_with_len from n)) ++ list) ≡ told_by list
  notices_told from zero few = refl
  notices_told from (suc n) few = by (notices_told (from + 1) n (omega arith)) (is_among from vs)
    where
      by : told_by (map act (filter (λ v. is_among v vs) (range_with_len (from + 1) n)) ++ list) ≡ told_by list → (b : Bool) →
          told_by (map act (cond b (from ∷ filter (λ v. is_among v vs) (range_with_len (from + 1) n)) (filter (λ v. is_among v vs) (range_with_len (from + 1) n))) ++ list) ≡ told_by list
      by rest true = next_told from (filter (λ v. is_among v vs) (range_with_len (from + 1) n)) (omega arith) ∙ rest
      by rest false = rest

  -- and no Decide
  pub notices_decide : (behind : List ℕ) → has_decide (map act behind ++ list) ≡ has_decide list
  notices_decide [] = refl
  notices_decide (v ∷ behind) = ap (λ b. b || has_decide (map act behind ++ list)) (is.none v) ∙ notices_decide behind

pub prepare_notice : (txn : TxnId) → IsNotice (λ v. acts.Prepare v txn) (λ v. message.Prepare v txn)
prepare_notice txn = record { gives = λ v. refl; none = λ v. refl }

pub finish_notice : (txn : TxnId) (commit : Bool) → IsNotice (λ v. acts.Finish v txn commit) (λ v. message.Finish v txn commit)
finish_notice txn commit = record { gives = λ v. refl; none = λ v. refl }

-- notices alone
module _ (act : ℕ → Act) (payload : ℕ → Content) (is : IsNotice act payload) (vs : List ℕ) where
  pub notices_tell_nothing : (n : ℕ) → n ≤ FRONT → told_by (map act (filter (λ v. is_among v vs) (range_with_len 0 n))) ≡ []
  notices_tell_nothing n few =
      ap told_by (sym (append-nil (map act (filter (λ v. is_among v vs) (range_with_len 0 n))))) ∙ notices_told act payload is [] vs 0 n (omega arith)

  pub notices_have_no_decide : (behind : List ℕ) → has_decide (map act behind) ≡ false
  notices_have_no_decide behind = ap has_decide (sym (append-nil (map act behind))) ∙ notices_decide act payload is [] vs behind

-- what a controller says to a session, if anything
abbrev pub said_to : TxnId → Option (ℕ × CommandOutcome) → List Content
said_to txn None = []
said_to txn (Some said) = Outcome txn said.0 said.1 ∷ []

-- of other sessions it is not
pub said-others : (s : ℕ) (txn : TxnId) (said : Option (ℕ × CommandOutcome)) → s ≢ txn.session → filter (is_of_session s) (said_to txn said) ≡ []
said-others s txn None other = refl
said-others s txn (Some said) other = cond-false _ _ _ (ne_eqb s txn.session other)

-- of its own it is
pub said-own : (txn : TxnId) (said : Option (ℕ × CommandOutcome)) → filter (is_of_session txn.session) (said_to txn said) ≡ said_to txn said
said-own txn None = refl
said-own txn (Some said) = cond-true _ _ _ (eq-eqb txn.session txn.session refl)
