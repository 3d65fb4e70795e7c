-- Records of logs that are read are those that were written, and what was written is read again.
use Rattle.std.proofs.Common.{◌≡◌, ℕ, Bool, ◌==◌, IsTrue, List, ◌++◌, Option, ℤ}
use Rattle.std.proofs.lemmas.Bool.{eqb-true}
use Rattle.cl_types.specs.declared.operations.Mode.{Mode}
use Rattle.cl_types.specs.declared.operations.TxnId.{TxnId}
use Rattle.cl_log.specs.declared.records.Form.{Form}
use Rattle.cl_log.specs.declared.records.LogRec.{LogRec}
use Rattle.cl_log.specs.declared.records.LogRec.TheVariants as entries
use Rattle.cl_fields.specs.Spelling.{byte, number_64, amount_bytes, flag_byte, mode_byte, txn_bytes, name_bytes, image_bytes, form_bytes, entry_bytes}
use Rattle.cl_fields.specs.Range.{IsTxn, IsEntry}
use Rattle.cl_fields.specs.Reading.{read_touch, read_set, read_add, read_comp, read_end, read_entry}
use Rattle.cl_fields.proofs.Readers.{Takes, IsSpelled, Again, takes_bind, takes_nothing, takes_if, takes_last, takes_as, again_bind, again_done, again_as, again_last}
use Rattle.cl_fields.proofs.Nested.{nest_3, nest_5, nest_6, nest_7}
use Rattle.cl_fields.proofs.NumberLaws.{takes_byte, again_byte, tagged, takes_64, again_64, takes_number, again_number, takes_amount, again_amount, takes_flag, again_flag, takes_mode, again_mode, takes_txn, again_txn}
use Rattle.cl_fields.proofs.NameLaws.{takes_table, again_table, takes_key, again_key, takes_image, again_image, takes_form, again_form}

-- the text is what stands after this byte of a record of a log
pub record IsBehind (b : ℕ) (entry : LogRec) (taken : List ℕ) : Type 0 where
  pub text : byte b ++ taken ≡ entry_bytes entry
  pub fits : IsEntry entry

takes_touch : Takes read_touch (IsBehind 1)
unfolding read_touch entry_bytes
takes_touch = takes_bind _ _ _ _ takes_txn (λ txn text_1 h1.
    takes_bind _ _ _ _ takes_table (λ table text_2 h2.
    takes_bind _ _ _ _ takes_key (λ key text_3 h3.
    takes_last _ _ _ _ takes_mode (λ mode text_4 h4.
    let fits : IsEntry (entries.Touch txn table key mode) = (h1.fits, h2.fits, h3.fits) in
    record { text = rw (h1.text, h2.text, h3.text, h4.text) (nest_5 (byte 1) (txn_bytes txn) (name_bytes table) (name_bytes key) (byte (mode_byte mode))); fits = fits }))))

again_touch : (txn : TxnId) (table : List ℕ) (key : List ℕ) (mode : Mode) → IsEntry (entries.Touch txn table key mode) → Again read_entry (entry_bytes (entries.Touch txn table key mode)) (entries.Touch txn table key mode)
unfolding read_entry read_touch entry_bytes
again_touch txn table key mode fits = again_as _ _ _ _ (again_bind _ _ (byte 1) _ _ _ (again_byte 1)
    (again_bind _ _ (txn_bytes txn) _ _ _ (again_txn txn fits.0)
    (again_bind _ _ (name_bytes table) _ _ _ (again_table table fits.1)
    (again_bind _ _ (name_bytes key) _ _ _ (again_key key fits.2)
    (again_last _ _ _ _ _ (again_mode mode) (again_done _)))))) (nest_5 (byte 1) (txn_bytes txn) (name_bytes table) (name_bytes key) (byte (mode_byte mode)))

takes_set : Takes read_set (IsBehind 2)
unfolding read_set entry_bytes
takes_set = takes_bind _ _ _ _ takes_txn (λ txn text_1 h1.
    takes_bind _ _ _ _ takes_table (λ table text_2 h2.
    takes_bind _ _ _ _ takes_key (λ key text_3 h3.
    takes_bind _ _ _ _ takes_64 (λ before text_4 h4.
    takes_bind _ _ _ _ takes_image (λ old text_5 h5.
    takes_last _ _ _ _ takes_image (λ new text_6 h6.
    let fits : IsEntry (entries.Set txn table key before old new) = (h1.fits, h2.fits, h3.fits, h4.fits, h5.fits, h6.fits) in
    record { text = rw (h1.text, h2.text, h3.text, h4.text, h5.text, h6.text) (nest_7 (byte 2) (txn_bytes txn) (name_bytes table) (name_bytes key) (number_64 before) (image_bytes old) (image_bytes new)); fits = fits }))))))

again_set : (txn : TxnId) (table : List ℕ) (key : List ℕ) (before : ℕ) (old : Option (List ℕ)) (new : Option (List ℕ)) → IsEntry (entries.Set txn table key before old new) → Again read_entry (entry_bytes (entries.Set txn table key before old new)) (entries.Set txn table key before old new)
unfolding read_entry read_set entry_bytes
again_set txn table key before old new fits = again_as _ _ _ _ (again_bind _ _ (byte 2) _ _ _ (again_byte 2)
    (again_bind _ _ (txn_bytes txn) _ _ _ (again_txn txn fits.0)
    (again_bind _ _ (name_bytes table) _ _ _ (again_table table fits.1)
    (again_bind _ _ (name_bytes key) _ _ _ (again_key key fits.2)
    (again_bind _ _ (number_64 before) _ _ _ (again_64 before fits.3)
    (again_bind _ _ (image_bytes old) _ _ _ (again_image old fits.4)
    (again_last _ _ _ _ _ (again_image new fits.5) (again_done _)))))))) (nest_7 (byte 2) (txn_bytes txn) (name_bytes table) (name_bytes key) (number_64 before) (image_bytes old) (image_bytes new))

takes_add : Takes read_add (IsBehind 3)
unfolding read_add entry_bytes
takes_add = takes_bind _ _ _ _ takes_txn (λ txn text_1 h1.
    takes_bind _ _ _ _ takes_table (λ table text_2 h2.
    takes_bind _ _ _ _ takes_key (λ key text_3 h3.
    takes_bind _ _ _ _ takes_64 (λ before text_4 h4.
    takes_last _ _ _ _ takes_amount (λ amount text_5 h5.
    let fits : IsEntry (entries.Add txn table key before amount) = (h1.fits, h2.fits, h3.fits, h4.fits, h5.fits) in
    record { text = rw (h1.text, h2.text, h3.text, h4.text, h5.text) (nest_6 (byte 3) (txn_bytes txn) (name_bytes table) (name_bytes key) (number_64 before) (amount_bytes amount)); fits = fits })))))

again_add : (txn : TxnId) (table : List ℕ) (key : List ℕ) (before : ℕ) (amount : ℤ) → IsEntry (entries.Add txn table key before amount) → Again read_entry (entry_bytes (entries.Add txn table key before amount)) (entries.Add txn table key before amount)
unfolding read_entry read_add entry_bytes
again_add txn table key before amount fits = again_as _ _ _ _ (again_bind _ _ (byte 3) _ _ _ (again_byte 3)
    (again_bind _ _ (txn_bytes txn) _ _ _ (again_txn txn fits.0)
    (again_bind _ _ (name_bytes table) _ _ _ (again_table table fits.1)
    (again_bind _ _ (name_bytes key) _ _ _ (again_key key fits.2)
    (again_bind _ _ (number_64 before) _ _ _ (again_64 before fits.3)
    (again_last _ _ _ _ _ (again_amount amount fits.4) (again_done _))))))) (nest_6 (byte 3) (txn_bytes txn) (name_bytes table) (name_bytes key) (number_64 before) (amount_bytes amount))

takes_comp : Takes read_comp (IsBehind 4)
unfolding read_comp entry_bytes
takes_comp = takes_bind _ _ _ _ takes_txn (λ txn text_1 h1.
    takes_bind _ _ _ _ takes_table (λ table text_2 h2.
    takes_bind _ _ _ _ takes_key (λ key text_3 h3.
    takes_bind _ _ _ _ takes_64 (λ before text_4 h4.
    takes_bind _ _ _ _ takes_number (λ undone text_5 h5.
    takes_last _ _ _ _ takes_form (λ form text_6 h6.
    let fits : IsEntry (entries.Comp txn table key before undone form) = (h1.fits, h2.fits, h3.fits, h4.fits, h5.fits, h6.fits) in
    record { text = rw (h1.text, h2.text, h3.text, h4.text, h5.text, h6.text) (nest_7 (byte 4) (txn_bytes txn) (name_bytes table) (name_bytes key) (number_64 before) (number_64 undone) (form_bytes form)); fits = fits }))))))

again_comp : (txn : TxnId) (table : List ℕ) (key : List ℕ) (before : ℕ) (undone : ℕ) (form : Form) → IsEntry (entries.Comp txn table key before undone form) → Again read_entry (entry_bytes (entries.Comp txn table key before undone form)) (entries.Comp txn table key before undone form)
unfolding read_entry read_comp entry_bytes
again_comp txn table key before undone form fits = again_as _ _ _ _ (again_bind _ _ (byte 4) _ _ _ (again_byte 4)
    (again_bind _ _ (txn_bytes txn) _ _ _ (again_txn txn fits.0)
    (again_bind _ _ (name_bytes table) _ _ _ (again_table table fits.1)
    (again_bind _ _ (name_bytes key) _ _ _ (again_key key fits.2)
    (again_bind _ _ (number_64 before) _ _ _ (again_64 before fits.3)
    (again_bind _ _ (number_64 undone) _ _ _ (again_number undone fits.4)
    (again_last _ _ _ _ _ (again_form form fits.5) (again_done _)))))))) (nest_7 (byte 4) (txn_bytes txn) (name_bytes table) (name_bytes key) (number_64 before) (number_64 undone) (form_bytes form))

takes_end : Takes read_end (IsBehind 6)
unfolding read_end entry_bytes
takes_end = takes_bind _ _ _ _ takes_txn (λ txn text_1 h1.
    takes_last _ _ _ _ takes_flag (λ commit text_2 h2.
    let fits : IsEntry (entries.End txn commit) = h1.fits in
    record { text = rw (h1.text, h2.text) (nest_3 (byte 6) (txn_bytes txn) (byte (flag_byte commit))); fits = fits }))

again_end : (txn : TxnId) (commit : Bool) → IsEntry (entries.End txn commit) → Again read_entry (entry_bytes (entries.End txn commit)) (entries.End txn commit)
unfolding read_entry read_end entry_bytes
again_end txn commit fits = again_as _ _ _ _ (again_bind _ _ (byte 6) _ _ _ (again_byte 6)
    (again_bind _ _ (txn_bytes txn) _ _ _ (again_txn txn fits)
    (again_last _ _ _ _ _ (again_flag commit) (again_done _)))) (nest_3 (byte 6) (txn_bytes txn) (byte (flag_byte commit)))

-- the text begins with the byte that was tested for, and what stands behind it
behind : (text more : List ℕ) (b n : ℕ) (entry : LogRec) → text ≡ byte b → IsTrue (b == n) → byte n ++ more ≡ entry_bytes entry → text ++ more ≡ entry_bytes entry
behind text more b n entry begins is then = rw (begins, eqb-true b n is) then

pub takes_entry : Takes read_entry (IsSpelled entry_bytes IsEntry)
unfolding read_entry entry_bytes
takes_entry = takes_bind _ _ _ _ takes_byte (λ b text h.
    takes_if _ _ _ _ (λ is_1. takes_as _ _ _ takes_touch (λ entry text_2 h2. record { text = behind text text_2 b 1 entry h.text is_1 h2.text; fits = h2.fits }))
    (λ _. takes_if _ _ _ _ (λ is_2. takes_as _ _ _ takes_set (λ entry text_2 h2. record { text = behind text text_2 b 2 entry h.text is_2 h2.text; fits = h2.fits }))
    (λ _. takes_if _ _ _ _ (λ is_3. takes_as _ _ _ takes_add (λ entry text_2 h2. record { text = behind text text_2 b 3 entry h.text is_3 h2.text; fits = h2.fits }))
    (λ _. takes_if _ _ _ _ (λ is_4. takes_as _ _ _ takes_comp (λ entry text_2 h2. record { text = behind text text_2 b 4 entry h.text is_4 h2.text; fits = h2.fits }))
    (λ _. takes_if _ _ _ _ (λ is_5. takes_last _ _ _ _ takes_txn (λ txn text_2 h2. record { text = tagged text b 5 text_2 _ h.text is_5 h2.text; fits = h2.fits }))
    (λ _. takes_if _ _ _ _ (λ is_6. takes_as _ _ _ takes_end (λ entry text_2 h2. record { text = behind text text_2 b 6 entry h.text is_6 h2.text; fits = h2.fits }))
    (λ _. takes_if _ _ _ _ (λ is_7. takes_last _ _ _ _ takes_txn (λ txn text_2 h2. record { text = tagged text b 7 text_2 _ h.text is_7 h2.text; fits = h2.fits }))
    (λ _. takes_nothing _))))))))

again_prepared : (txn : TxnId) → IsTxn txn → Again read_entry (entry_bytes (entries.Prepared txn)) (entries.Prepared txn)
unfolding read_entry entry_bytes
again_prepared txn fits = again_bind _ _ (byte 5) (txn_bytes txn) _ _ (again_byte 5) (again_last _ _ _ _ _ (again_txn txn fits) (again_done _))

again_decide : (txn : TxnId) → IsTxn txn → Again read_entry (entry_bytes (entries.Decide txn)) (entries.Decide txn)
unfolding read_entry entry_bytes
again_decide txn fits = again_bind _ _ (byte 7) (txn_bytes txn) _ _ (again_byte 7) (again_last _ _ _ _ _ (again_txn txn fits) (again_done _))

pub again_entry : (entry : LogRec) → IsEntry entry → Again read_entry (entry_bytes entry) entry
again_entry (entries.Touch txn table key mode) fits = again_touch txn table key mode fits
again_entry (entries.Set txn table key before old new) fits = again_set txn table key before old new fits
again_entry (entries.Add txn table key before amount) fits = again_add txn table key before amount fits
again_entry (entries.Comp txn table key before undone form) fits = again_comp txn table key before undone form fits
again_entry (entries.End txn commit) fits = again_end txn commit fits
again_entry (entries.Prepared txn) fits = again_prepared txn fits
again_entry (entries.Decide txn) fits = again_decide txn fits
