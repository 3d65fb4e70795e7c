-- What readers that are composed take from the left, and what they read again.
use Rattle.std.proofs.Common.{◌≡◌, ℕ, ◌<◌, Bool, true, false, cond, List, [], ◌++◌, get_or, Ok, Err, refl, sym, ap, subst, ◌∙◌, append_assoc}
use Rattle.std.proofs.lemmas.List.{append-nil}
use Rattle.cl_fields.specs.Reading.{Read, Reader, onward, ◌>>=◌, done, checked, out_of_range}

abbrev pub IsBytes : List ℕ → Type 0
IsBytes bytes = (i : ℕ) → get_or bytes i 0 < 256

-- what was taken from the left
pub record Taken {A : Type 0} (R : A → List ℕ → Type 0) (bytes : List ℕ) (found : A) (rest : List ℕ) : Type 0 where
  pub text : List ℕ
  pub parts : bytes ≡ text ++ rest
  pub left : IsBytes rest
  pub holds : R found text

-- whatever the reader finds, it takes a text that is so related to it
pub record Takes {A : Type 0} (reader : Reader A) (R : A → List ℕ → Type 0) : Type 0 where
  pub run : (bytes : List ℕ) (found : A) (rest : List ℕ) → IsBytes bytes → reader bytes ≡ Ok (found, rest) → Taken R bytes found rest

-- the text is the spelling of what was found, which is in its range
pub record IsSpelled {A : Type 0} (spell : A → List ℕ) (Fits : A → Type 0) (found : A) (taken : List ℕ) : Type 0 where
  pub text : taken ≡ spell found
  pub fits : Fits found

-- the reader finds this in the text, whatever follows
pub record Again {A : Type 0} (reader : Reader A) (text : List ℕ) (found : A) : Type 0 where
  pub run : (rest : List ℕ) → reader (text ++ rest) ≡ Ok (found, rest)

onward_ok : {A B : Type 0} (read : Read A) (next : A → Reader B) (y : B × List ℕ) → onward read next ≡ Ok y → (x : A × List ℕ) × (read ≡ Ok x) × (next x.0 x.1 ≡ Ok y)
onward_ok (Ok x) next y e = (x, refl, e)
onward_ok (Err fault) next y e = absurd cc

pub takes_bind : {A B : Type 0} (reader : Reader A) (next : A → Reader B) (S : A → List ℕ → Type 0) (R : B → List ℕ → Type 0) → Takes reader S → ((found : A) (text : List ℕ) → S found text → Takes (next found) (λ made more. R made (text ++ more))) → Takes (reader >>= next) R
takes_bind reader next S R first second = record {
  run = λ bytes found rest fits e.
      let step = onward_ok (reader bytes) next (found, rest) e in
      let a = first.run bytes step.0.0 step.0.1 fits step.1 in
      let b = (second step.0.0 a.text a.holds).run step.0.1 found rest a.left step.2 in
      record {
        text = a.text ++ b.text;
        parts = a.parts ∙ ap (λ (t : List ℕ). a.text ++ t) b.parts ∙ sym (append_assoc a.text b.text rest);
        left = b.left;
        holds = b.holds;
      };
}

-- what two readings that are one have found and left
pub same_found : {A : Type 0} (x y : A × List ℕ) → Path (Read A) (Ok x) (Ok y) → x ≡ y
same_found x y e = cc

-- what was taken where nothing was
took_nothing : {A : Type 0} (R : A → List ℕ → Type 0) (made found : A) (bytes rest : List ℕ) → R made [] → IsBytes bytes → Path (Read A) (Ok (made, bytes)) (Ok (found, rest)) → Taken R bytes found rest
took_nothing {A = A} R made found bytes rest holds fits e =
    let both = same_found (made, bytes) (found, rest) e in
    let same : made ≡ found = ap (λ (p : A × List ℕ). p.0) both in
    let left : bytes ≡ rest = ap (λ (p : A × List ℕ). p.1) both in
    record { text = []; parts = left; left = subst IsBytes left fits; holds = subst (λ x. R x []) same holds }

pub takes_done : {A : Type 0} (made : A) (R : A → List ℕ → Type 0) → R made [] → Takes (done made) R
takes_done made R holds = record { run = λ bytes found rest fits e. took_nothing R made found bytes rest holds fits e }

passed : {A : Type 0} (passes : Bool) (R : A → List ℕ → Type 0) (made found : A) (bytes rest : List ℕ) → (passes ≡ true → R made []) → IsBytes bytes → checked passes made bytes ≡ Ok (found, rest) → Taken R bytes found rest
passed true R made found bytes rest holds fits e = took_nothing R made found bytes rest (holds refl) fits e
passed false R made found bytes rest holds fits e = absurd cc

pub takes_checked : {A : Type 0} (passes : Bool) (made : A) (R : A → List ℕ → Type 0) → (passes ≡ true → R made []) → Takes (checked passes made) R
takes_checked passes made R holds = record { run = λ bytes found rest fits e. passed passes R made found bytes rest holds fits e }

pub takes_nothing : {A : Type 0} (R : A → List ℕ → Type 0) → Takes out_of_range R
takes_nothing R = record { run = λ bytes found rest fits e. absurd cc }

pub takes_if : {A : Type 0} (test : Bool) (one other : Reader A) (R : A → List ℕ → Type 0) → (test ≡ true → Takes one R) → (test ≡ false → Takes other R) → Takes (cond test one other) R
takes_if true one other R first second = first refl
takes_if false one other R first second = second refl

-- the last part of what is read
pub takes_last : {A B : Type 0} (reader : Reader A) (make : A → B) (S : A → List ℕ → Type 0) (R : B → List ℕ → Type 0) → Takes reader S → ((found : A) (text : List ℕ) → S found text → R (make found) text) → Takes (reader >>= λ found. done (make found)) R
takes_last reader make S R first second =
    takes_bind reader (λ found. done (make found)) S R first (λ found text h. takes_done (make found) (λ made more. R made (text ++ more)) (rw append-nil (second found text h)))

-- the last part of what is read, if it passes
pub takes_passed : {A : Type 0} (reader : Reader A) (test : A → Bool) (S R : A → List ℕ → Type 0) → Takes reader S → ((found : A) (text : List ℕ) → S found text → test found ≡ true → R found text) → Takes (reader >>= λ found. checked (test found) found) R
takes_passed reader test S R first second =
    takes_bind reader (λ found. checked (test found) found) S R first (λ found text h. takes_checked (test found) found (λ made more. R made (text ++ more)) (λ passes. rw append-nil (second found text h passes)))

pub takes_as : {A : Type 0} (reader : Reader A) (S R : A → List ℕ → Type 0) → Takes reader S → ((found : A) (text : List ℕ) → S found text → R found text) → Takes reader R
takes_as reader S R takes follows = record {
  run = λ bytes found rest fits e.
      let a = takes.run bytes found rest fits e in
      record { text = a.text; parts = a.parts; left = a.left; holds = follows found a.text a.holds };
}

pub again_bind : {A B : Type 0} (reader : Reader A) (next : A → Reader B) (text more : List ℕ) (found : A) (made : B) → Again reader text found → Again (next found) more made → Again (reader >>= next) (text ++ more) made
again_bind reader next text more found made first second = record {
  run = λ rest. rw (append_assoc text more rest, first.run (more ++ rest)) (second.run rest);
}

pub again_done : {A : Type 0} (made : A) → Again (done made) [] made
again_done made = record { run = λ rest. refl }

pub again_checked : {A : Type 0} (passes : Bool) (made : A) → passes ≡ true → Again (checked passes made) [] made
again_checked passes made passed = record { run = λ rest. rw passed refl }

-- the same text
pub again_as : {A : Type 0} (reader : Reader A) (text same : List ℕ) (found : A) → Again reader text found → text ≡ same → Again reader same found
again_as reader text same found first e = subst (λ (t : List ℕ). Again reader t found) e first

pub again_passed : {A : Type 0} (reader : Reader A) (test : A → Bool) (text : List ℕ) (found : A) → Again reader text found → test found ≡ true → Again (reader >>= λ x. checked (test x) x) text found
again_passed reader test text found first passes = record {
  run = λ rest. rw (first.run rest, passes) refl;
}

-- nothing more is read
pub again_last : {A B : Type 0} (reader : Reader A) (next : A → Reader B) (text : List ℕ) (found : A) (made : B) → Again reader text found → Again (next found) [] made → Again (reader >>= next) text made
again_last reader next text found made first second = record {
  run = λ rest. rw (first.run rest) (second.run rest);
}
