-- Lists and records of stores that are read are those that were written, and what was written is read again.
use Rattle.std.proofs.Common.{◌≡◌, ℕ, zero, suc, List, [], ◌∷◌, length, All, refl, sym, ap, arith}
use Rattle.std.specs.List.{flat_map, AllByRecursion}
use Rattle.std.proofs.lemmas.List.Elements.{All-nil, All-cons, recursion_from_All}
use Rattle.std.proofs.lemmas.List.Concat.{flat_map-cons}
use Rattle.cl_types.specs.declared.operations.TxnId.{TxnId}
use Rattle.cl_store.specs.declared.item.Item.{Item}
use Rattle.cl_fields.specs.Spelling.{byte, number_64, txn_bytes, name_bytes, image_bytes, item_bytes, list_bytes}
use Rattle.cl_fields.specs.Range.{IsTxn, IsItem, AreFew}
use Rattle.cl_fields.specs.Reading.{Reader, read_txn, read_item, read_members, read_list}
use Rattle.cl_fields.proofs.Readers.{Takes, IsSpelled, Again, takes_bind, takes_done, takes_last, takes_as, again_bind, again_done, again_as, again_last}
use Rattle.cl_fields.proofs.Nested.{nest_4}
use Rattle.cl_fields.proofs.NumberLaws.{takes_up_to, again_between, takes_number, again_number, takes_txn, again_txn}
use Rattle.cl_fields.proofs.NameLaws.{takes_table, again_table, takes_key, again_key, takes_image, again_image}

takes_item : Takes read_item (IsSpelled item_bytes IsItem)
unfolding read_item item_bytes
takes_item = takes_bind _ _ _ _ takes_table (λ table text_1 h1.
    takes_bind _ _ _ _ takes_key (λ key text_2 h2.
    takes_bind _ _ _ _ takes_number (λ number text_3 h3.
    takes_last _ _ _ _ takes_image (λ value text_4 h4. record {
      text = rw (h1.text, h2.text, h3.text, h4.text) (nest_4 (name_bytes table) (name_bytes key) (number_64 number) (image_bytes value));
      fits = record { table = h1.fits; key = h2.fits; number = h3.fits; value = h4.fits };
    }))))

again_item : (item : Item) → IsItem item → Again read_item (item_bytes item) item
unfolding read_item item_bytes
again_item item fits = again_as _ _ _ _
    (again_bind _ _ (name_bytes item.table) _ _ _ (again_table item.table fits.table)
    (again_bind _ _ (name_bytes item.key) _ _ _ (again_key item.key fits.key)
    (again_bind _ _ (number_64 item.number) _ _ _ (again_number item.number fits.number)
    (again_last _ _ _ _ _ (again_image item.value fits.value) (again_done _)))))
    (nest_4 (name_bytes item.table) (name_bytes item.key) (number_64 item.number) (image_bytes item.value))

-- the text is so many members, each in its range
pub record AreMembers {A : Type 0} (spell : A → List ℕ) (Fits : A → Type 0) (count : ℕ) (members : List A) (taken : List ℕ) : Type 0 where
  pub text : taken ≡ flat_map spell members
  pub size : length members ≡ count
  pub each : All Fits members

takes_members : {A : Type 0} (read_member : Reader A) (spell : A → List ℕ) (Fits : A → Type 0) → Takes read_member (IsSpelled spell Fits) → (count : ℕ) → Takes (read_members read_member count) (AreMembers spell Fits count)
unfolding read_members
takes_members read_member spell Fits takes zero = takes_done _ _ (record { text = refl; size = refl; each = All-nil Fits })
takes_members read_member spell Fits takes (suc count) = takes_bind _ _ _ _ takes (λ first text_1 h1.
    takes_last _ _ _ _ (takes_members read_member spell Fits takes count) (λ others text_2 h2. record {
      text = rw (flat_map-cons, h1.text, h2.text) refl;
      size = ap suc h2.size;
      each = All-cons Fits first others h1.fits h2.each;
    }))

again_members : {A : Type 0} (read_member : Reader A) (spell : A → List ℕ) (Fits : A → Type 0) → ((member : A) → Fits member → Again read_member (spell member) member) → (members : List A) → AllByRecursion Fits members → Again (read_members read_member (length members)) (flat_map spell members) members
unfolding read_members
again_members read_member spell Fits again [] fits = again_done _
again_members read_member spell Fits again (first ∷ others) fits = again_as _ _ _ _
    (again_bind _ _ (spell first) (flat_map spell others) _ _ (again first fits.0)
    (again_last _ _ _ _ _ (again_members read_member spell Fits again others fits.1) (again_done _)))
    (sym (flat_map-cons spell first others))

takes_list : {A : Type 0} (read_member : Reader A) (spell : A → List ℕ) (Fits : A → Type 0) → Takes read_member (IsSpelled spell Fits) → Takes (read_list read_member) (IsSpelled (list_bytes spell) (AreFew Fits))
unfolding read_list list_bytes
takes_list read_member spell Fits takes = takes_bind _ _ _ _ (takes_up_to 4) (λ count text_1 h1.
    takes_as _ _ _ (takes_members read_member spell Fits takes count) (λ members text_2 h2. record {
      text = rw (h1.text, h2.text, ← h2.size) refl;
      fits = record { few = rw h2.size h1.fits; each = h2.each };
    }))

again_list : {A : Type 0} (read_member : Reader A) (spell : A → List ℕ) (Fits : A → Type 0) → ((member : A) → Fits member → Again read_member (spell member) member) → (members : List A) → AreFew Fits members → Again (read_list read_member) (list_bytes spell members) members
unfolding read_list list_bytes
again_list read_member spell Fits again members fits =
    again_bind _ _ (byte (length members)) (flat_map spell members) _ _ (again_between 0 4 (length members) (omega arith) fits.few)
    (again_members read_member spell Fits again members (recursion_from_All Fits members fits.each))

pub takes_items : Takes (read_list read_item) (IsSpelled (list_bytes item_bytes) (AreFew IsItem))
takes_items = takes_list read_item item_bytes IsItem takes_item

pub again_items : (records : List Item) → AreFew IsItem records → Again (read_list read_item) (list_bytes item_bytes records) records
again_items records fits = again_list read_item item_bytes IsItem again_item records fits

pub takes_txns : Takes (read_list read_txn) (IsSpelled (list_bytes txn_bytes) (AreFew IsTxn))
takes_txns = takes_list read_txn txn_bytes IsTxn takes_txn

pub again_txns : (txns : List TxnId) → AreFew IsTxn txns → Again (read_list read_txn) (list_bytes txn_bytes txns) txns
again_txns txns fits = again_list read_txn txn_bytes IsTxn again_txn txns fits
