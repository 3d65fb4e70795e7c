-- The commands that words are.
use Rattle.std.proofs.Common.{◌≡◌, ℕ, ℤ, Bool, true, false, cond, List, [], ◌∷◌, codes, Option, Some, None, Result, Ok, Err, refl, ap, ◌∙◌, subst, inl, inr, ◌⊎◌}
use Rattle.std.specs.Option.{option_map}
use Rattle.std.specs.Str.{bytes_eq}
use Rattle.std.proofs.lemmas.Slice.Eq.{bytes_eq-Decides}
use Rattle.std.proofs.lemmas.Option.{same_Some}
use Rattle.cl_types.specs.declared.operations.Command.{Command}
use Rattle.cl_types.specs.declared.operations.Command.TheVariants.{Begin, Work, Commit, Abort}
use Rattle.cl_types.specs.declared.operations.Op.{Op}
use Rattle.cl_types.specs.declared.operations.Op.TheVariants.{Get, Put, Del, Add}
use Rattle.cl_types.specs.Names.{is_table_name, is_key, is_value}
use Rattle.cl_types.specs.Decimal.{number}
use Rattle.cl_types.proofs.DecimalLaws.{number-signed_decimal, number-text}
use Rattle.cl_lines.specs.declared.line.LineFault.{LineFault}
use Rattle.cl_lines.specs.declared.line.LineFault.TheVariants.{Table, Key, Value}
use Rattle.cl_lines.specs.Line.{bare_command, bare_operation, operation_with, put_of, add_of_number, add_of, work, on_record, command_of}
use Rattle.cl_lines.specs.Spelling.{command_words}
use Rattle.cl_lines.specs.Laws.{IsAskable}

-- a test that chose a reading, before another one
either : {A : Type 0} (b : Bool) (reading other : Option A) (x : A) → cond b reading other ≡ Some x → ((b ≡ true) × (reading ≡ Some x)) ⊎ (other ≡ Some x)
either true reading other x e = inl (refl, e)
either false reading other x e = inr e

-- a test that a reading passed
passed : {A : Type 0} (b : Bool) (reading : Result A LineFault) (fault : LineFault) (x : A) → cond b reading (Err fault) ≡ Ok x → (b ≡ true) × (reading ≡ Ok x)
passed true reading fault x e = (refl, e)
passed false reading fault x e = absurd cc

-- a word that passes the test for a word is that word
pub word_is : (word form : List ℕ) → bytes_eq word form ≡ true → word ≡ form
word_is word form e = (bytes_eq-Decides word form).0 e

-- the words are those of the command, which is askable
pub record Forms (ws : List (List ℕ)) (command : Command) : Type 0 where
  pub words_are : ws ≡ command_words command
  pub askable : IsAskable command

Forms-same : (ws : List (List ℕ)) (c d : Command) → c ≡ d → Forms ws c → Forms ws d
Forms-same ws c d same forms = let P : Command → Type 0 = λ x. Forms ws x in subst P same forms

-- the one word of a verb that is a command
bare_is : (verb form : List ℕ) (c d : Command) → form ∷ [] ≡ command_words c → IsAskable c → bytes_eq verb form ≡ true → c ≡ d → Forms (verb ∷ []) d
bare_is verb form c d spelled askable same same_command =
    Forms-same (verb ∷ []) c d same_command
    (record { words_are = ap (λ (x : List ℕ). x ∷ []) (word_is verb form same) ∙ spelled; askable = askable })

bare : (verb : List ℕ) (command : Command) → bare_command verb ≡ Some (Ok command) → Forms (verb ∷ []) command
bare verb command e =
    let is : List ℕ → Bool = λ form. bytes_eq verb form in
    elim (either (is (codes "BEGIN")) (Some (Ok Begin)) _ (Ok command) e) [
      | inl w ↦ bare_is verb (codes "BEGIN") Begin command refl tt w.0 cc
      | inr e2 ↦ elim (either (is (codes "COMMIT")) (Some (Ok Commit)) _ (Ok command) e2) [
        | inl w ↦ bare_is verb (codes "COMMIT") Commit command refl tt w.0 cc
        | inr e3 ↦ elim (either (is (codes "ABORT")) (Some (Ok Abort)) None (Ok command) e3) [
          | inl w ↦ bare_is verb (codes "ABORT") Abort command refl tt w.0 cc
          | inr e4 ↦ absurd cc
        ]
      ]
    ]

-- an operation on a record that is read as a command
record Recorded (table key : List ℕ) (reading : Result Op LineFault) (command : Command) : Type 0 where
  is_table : is_table_name table ≡ true
  is_lawful_key : is_key key ≡ true
  op : Op
  op_is : reading ≡ Ok op
  command_is : Work table key op ≡ command

worked : (table key : List ℕ) (reading : Result Op LineFault) (command : Command) → is_table_name table ≡ true → is_key key ≡ true → work table key reading ≡ Ok command → Recorded table key reading command
worked table key (Ok op) command is_table is_lawful_key e =
    record { is_table = is_table; is_lawful_key = is_lawful_key; op = op; op_is = refl; command_is = cc }
worked table key (Err fault) command is_table is_lawful_key e = absurd cc

recorded : (table key : List ℕ) (reading : Result Op LineFault) (command : Command) → on_record table key reading ≡ Ok command → Recorded table key reading command
recorded table key reading command e =
    let in_table = passed (is_table_name table) (cond (is_key key) (work table key reading) (Err Key)) Table command e in
    let in_key = passed (is_key key) (work table key reading) Key command in_table.1 in
    worked table key reading command in_table.0 in_key.0 in_key.1

-- an operation of this reading, on the record
mapped : (table key : List ℕ) (found : Option (Result Op LineFault)) (command : Command) → option_map (on_record table key) found ≡ Some (Ok command) → (reading : Result Op LineFault) × (found ≡ Some reading) × Recorded table key reading command
mapped table key (Some reading) command e = (reading, refl, recorded table key reading command cc)
mapped table key None command e = absurd cc

-- the words of a GET or a DEL
on_record_alone : (verb form table key : List ℕ) (op : Op) (reading : Result Op LineFault) (command : Command) → form ∷ table ∷ key ∷ [] ≡ command_words (Work table key op) → ((is_table_name table ≡ true) × (is_key key ≡ true) → IsAskable (Work table key op)) → bytes_eq verb form ≡ true → Some (Ok op) ≡ Some reading → Recorded table key reading command → Forms (verb ∷ table ∷ key ∷ []) command
on_record_alone verb form table key op reading command spelled askable same e r =
    let op_is : op ≡ r.op = let read : Ok op ≡ reading = cc in let found : Ok op ≡ Ok r.op = read ∙ r.op_is in cc in
    let command_is : Work table key op ≡ command = ap (λ (o : Op). Work table key o) op_is ∙ r.command_is in
    Forms-same (verb ∷ table ∷ key ∷ []) (Work table key op) command command_is
    (record { words_are = ap (λ (x : List ℕ). x ∷ table ∷ key ∷ []) (word_is verb form same) ∙ spelled; askable = askable (r.is_table, r.is_lawful_key) })

bare_record : (verb table key : List ℕ) (command : Command) → option_map (on_record table key) (bare_operation verb) ≡ Some (Ok command) → Forms (verb ∷ table ∷ key ∷ []) command
bare_record verb table key command e =
    let r = mapped table key (bare_operation verb) command e in
    elim (either (bytes_eq verb (codes "GET")) (Some (Ok Get)) _ r.0 r.1) [
      | inl w ↦ on_record_alone verb (codes "GET") table key Get r.0 command refl (λ h. h) w.0 w.1 r.2
      | inr e2 ↦ elim (either (bytes_eq verb (codes "DEL")) (Some (Ok Del)) None r.0 e2) [
        | inl w ↦ on_record_alone verb (codes "DEL") table key Del r.0 command refl (λ h. h) w.0 w.1 r.2
        | inr e3 ↦ absurd cc
      ]
    ]

-- the value that a PUT was read with
put_read : (lawful : Bool) (argument : List ℕ) (op : Op) → cond lawful (Ok (Put argument)) (Err Value) ≡ Ok op → (lawful ≡ true) × (Put argument ≡ op)
put_read true argument op e = (refl, cc)
put_read false argument op e = absurd cc

-- the amount that an ADD was read with
add_read : (found : Option ℤ) (op : Op) → add_of_number found ≡ Ok op → (amount : ℤ) × (found ≡ Some amount) × (Add amount ≡ op)
add_read (Some amount) op e = (amount, refl, cc)
add_read None op e = absurd cc

on_put : (verb table key argument : List ℕ) (reading : Result Op LineFault) (command : Command) → bytes_eq verb (codes "PUT") ≡ true → Some (put_of argument) ≡ Some reading → Recorded table key reading command → Forms (verb ∷ table ∷ key ∷ argument ∷ []) command
on_put verb table key argument reading command same e r =
    let read : put_of argument ≡ Ok r.op = let found : put_of argument ≡ reading = same_Some _ _ e in found ∙ r.op_is in
    let put = put_read (is_value argument) argument r.op read in
    Forms-same (verb ∷ table ∷ key ∷ argument ∷ []) (Work table key (Put argument)) command (ap (λ (o : Op). Work table key o) put.1 ∙ r.command_is)
    (record {
      words_are = ap (λ (x : List ℕ). x ∷ table ∷ key ∷ argument ∷ []) (word_is verb (codes "PUT") same);
      askable = (r.is_table, r.is_lawful_key, put.0);
    })

on_add : (verb table key argument : List ℕ) (reading : Result Op LineFault) (command : Command) → bytes_eq verb (codes "ADD") ≡ true → Some (add_of argument) ≡ Some reading → Recorded table key reading command → Forms (verb ∷ table ∷ key ∷ argument ∷ []) command
on_add verb table key argument reading command same e r =
    let read : add_of argument ≡ Ok r.op = let found : add_of argument ≡ reading = same_Some _ _ e in found ∙ r.op_is in
    let add = add_read (number argument) r.op read in
    let written = number-text argument add.0 add.1 in
    Forms-same (verb ∷ table ∷ key ∷ argument ∷ []) (Work table key (Add add.0)) command (ap (λ (o : Op). Work table key o) add.2 ∙ r.command_is)
    (record {
      words_are = ap (λ (x : List ℕ). x ∷ table ∷ key ∷ argument ∷ []) (word_is verb (codes "ADD") same) ∙ ap (λ (x : List ℕ). codes "ADD" ∷ table ∷ key ∷ x ∷ []) written.0;
      askable = (r.is_table, r.is_lawful_key, written.1);
    })

record_with : (verb table key argument : List ℕ) (command : Command) → option_map (on_record table key) (operation_with verb argument) ≡ Some (Ok command) → Forms (verb ∷ table ∷ key ∷ argument ∷ []) command
record_with verb table key argument command e =
    let r = mapped table key (operation_with verb argument) command e in
    elim (either (bytes_eq verb (codes "PUT")) (Some (put_of argument)) _ r.0 r.1) [
      | inl w ↦ on_put verb table key argument r.0 command w.0 w.1 r.2
      | inr e2 ↦ elim (either (bytes_eq verb (codes "ADD")) (Some (add_of argument)) None r.0 e2) [
        | inl w ↦ on_add verb table key argument r.0 command w.0 w.1 r.2
        | inr e3 ↦ absurd cc
      ]
    ]

-- words that are read as a command are those of the command
pub forms_from_reading : (ws : List (List ℕ)) (command : Command) → command_of ws ≡ Some (Ok command) → Forms ws command
unfolding command_of
forms_from_reading [] command e = absurd cc
forms_from_reading (a ∷ []) command e = bare a command e
forms_from_reading (a ∷ b ∷ []) command e = absurd cc
forms_from_reading (a ∷ b ∷ c ∷ []) command e = bare_record a b c command e
forms_from_reading (a ∷ b ∷ c ∷ d ∷ []) command e = record_with a b c d command e
forms_from_reading (a ∷ b ∷ c ∷ d ∷ x ∷ ws) command e = absurd cc

-- the words of an askable command are read as it
pub reading_from_askable : (command : Command) → IsAskable command → command_of (command_words command) ≡ Some (Ok command)
unfolding command_of
reading_from_askable Begin h = refl
reading_from_askable (Work table key Get) h = rw (h.0, h.1) refl
reading_from_askable (Work table key (Put value)) h = rw (h.0, h.1, h.2) refl
reading_from_askable (Work table key Del) h = rw (h.0, h.1) refl
reading_from_askable (Work table key (Add amount)) h = rw (h.0, h.1, number-signed_decimal amount h.2) refl
reading_from_askable Commit h = refl
reading_from_askable Abort h = refl
