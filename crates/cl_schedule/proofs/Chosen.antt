-- What a turn takes, as the code finds it.
use Rattle.std.proofs.Common.{◌≡◌, ℕ, zero, suc, ◌+◌, ◌<◌, Bool, true, false, cond, ◌&&◌, not, List, [], ◌∷◌, ◌++◌, length, drop, Option, Some, None, slice_get, refl, sym, ap, ◌∙◌, arith}
use Rattle.std.specs.Borrow.{Bor}
use Rattle.std.proofs.lemmas.List.{length-append, length-map, nil_from_length}
use Rattle.cl_ranked.specs.Slots.{kept}
use Rattle.cl_runs.specs.World.{Shape}
use Rattle.cl_world.specs.World.{moment_after}
use Rattle.cl_world.specs.declared.world.World.{World}
use Rattle.cl_schedule.specs.Course.{Candidate, Course, line, candidates, is_quiet, must_wait, next_line, or_else, packets_from, waiting_actors}
use Rattle.cl_schedule.specs.Making.{IsAtCourse, line_list, packet_of, packets_in, times_at}
use Rattle.cl_schedule.specs.Turns.{place_in, taken}
use Rattle.cl_schedule.specs.declared.progress.Progress.{Progress}
use Rattle.cl_schedule.specs.declared.setting.Setting.{Setting}
use Rattle.cl_schedule.proofs.Choices.{packets_of}

-- where there is a packet or a line, no time passes
event_first : (events others : List Candidate) (quiet_now : Bool) → 0 < length events → or_else events quiet_now others ≡ events
event_first [] others quiet_now some = absurd (omega arith)
event_first (one ∷ more) others quiet_now some = refl

-- the candidates, by what the world has
candidates_are : (shape : Shape) (setting : Setting) (made : World) (progress : Progress) (lines : List (List ℕ)) (course : Course) (found : Option (Bor (List ℕ))) → IsAtCourse shape made progress lines course →
    line_list found ≡ next_line setting.step (is_quiet shape (moment_after shape course.run)) (drop progress.fed lines) →
    candidates shape setting course ≡ or_else (packets_in made ++ line_list found) (is_quiet shape (moment_after shape course.run)) (waiting_actors shape (moment_after shape course.run))
candidates_are shape setting made progress lines course found at is =
    let quiet_now : Bool = is_quiet shape (moment_after shape course.run) in
    let others : List Candidate = waiting_actors shape (moment_after shape course.run) in
    let packets : packets_from (moment_after shape course.run) 1 course.slots ≡ packets_in made
    = ap (λ slots. packets_from (moment_after shape course.run) 1 slots) (sym at.slots) ∙ packets_of shape made course.run at.is in
    let next : next_line setting.step quiet_now course.left ≡ line_list found = ap (λ left. next_line setting.step quiet_now left) at.left ∙ sym is in
    ap (λ (firsts : List Candidate). or_else (firsts ++ next_line setting.step quiet_now course.left) quiet_now others) packets ∙ ap (λ (seconds : List Candidate). or_else (packets_in made ++ seconds) quiet_now others) next

-- how many packets and lines there are
counted : (made : World) (found : List Candidate) → length (packets_in made ++ found) ≡ length (kept made.mail) + length found
counted made found = length-append (packets_in made) found ∙ ap (λ n. n + length found) (length-map (kept made.mail) packet_of)

-- a packet or a line is taken
pub taken_event : (shape : Shape) (setting : Setting) (made : World) (progress : Progress) (lines : List (List ℕ)) (course : Course) (found : Option (Bor (List ℕ))) (count : ℕ) →
    IsAtCourse shape made progress lines course →
    line_list found ≡ next_line setting.step (is_quiet shape (moment_after shape course.run)) (drop progress.fed lines) →
    count ≡ length (kept made.mail) + length (line_list found) → 0 < count →
    slice_get (packets_in made ++ line_list found) (place_in setting.seed (progress.turns + 1) count) ≡ taken shape setting course
taken_event shape setting made progress lines course found count at is counts some =
    let events : List Candidate = packets_in made ++ line_list found in
    let long : length events ≡ count = counted made (line_list found) ∙ sym counts in
    let whole : candidates shape setting course ≡ events
    = candidates_are shape setting made progress lines course found at is
    ∙ event_first events (waiting_actors shape (moment_after shape course.run)) (is_quiet shape (moment_after shape course.run)) (omega arith) in
    ap (λ (n : ℕ). slice_get events (place_in setting.seed (n + 1) count)) at.turns
    ∙ ap (λ (n : ℕ). slice_get events (place_in setting.seed (course.turns + 1) n)) (sym long)
    ∙ ap (λ (all : List Candidate). slice_get all (place_in setting.seed (course.turns + 1) (length all))) (sym whole)

-- time passes, or nothing happens
pub taken_time : (shape : Shape) (setting : Setting) (made : World) (progress : Progress) (lines : List (List ℕ)) (course : Course) (found : Option (Bor (List ℕ))) (count : ℕ) →
    IsAtCourse shape made progress lines course →
    line_list found ≡ next_line setting.step (is_quiet shape (moment_after shape course.run)) (drop progress.fed lines) →
    count ≡ length (kept made.mail) + length (line_list found) → count ≡ 0 →
    slice_get (times_at shape course.run) (place_in setting.seed (progress.turns + 1) (length (times_at shape course.run))) ≡ taken shape setting course
taken_time shape setting made progress lines course found count at is counts none =
    let events : List Candidate = packets_in made ++ line_list found in
    let empty : events ≡ [] = nil_from_length events (counted made (line_list found) ∙ sym counts ∙ none) in
    let whole : candidates shape setting course ≡ times_at shape course.run
    = candidates_are shape setting made progress lines course found at is
    ∙ ap (λ (firsts : List Candidate). or_else firsts (is_quiet shape (moment_after shape course.run)) (waiting_actors shape (moment_after shape course.run))) empty in
    ap (λ (n : ℕ). slice_get (times_at shape course.run) (place_in setting.seed (n + 1) (length (times_at shape course.run)))) at.turns
    ∙ ap (λ (all : List Candidate). slice_get all (place_in setting.seed (course.turns + 1) (length all))) (sym whole)

-- no line is left
pub none_left : (texts : List (List ℕ)) (fed : ℕ) → slice_get texts fed ≡ None → drop fed texts ≡ []
none_left [] zero is = refl
none_left [] (suc fed) is = refl
none_left (text ∷ texts) zero is = absurd cc
none_left (text ∷ texts) (suc fed) is = none_left texts fed is

-- the next line is the first that is left
pub some_left : (texts : List (List ℕ)) (fed : ℕ) (text : List ℕ) → slice_get texts fed ≡ Some text → drop fed texts ≡ text ∷ drop (suc fed) texts
some_left [] fed text is = absurd cc
some_left (one ∷ texts) zero text is = let same : one ≡ text = cc in ap (λ (t : List ℕ). t ∷ texts) same
some_left (one ∷ texts) (suc fed) text is = some_left texts fed text is

-- whether it may be fed
pub next_fed : (step quiet_now waits : Bool) (texts : List (List ℕ)) (fed : ℕ) (text : List ℕ) → slice_get texts fed ≡ Some text → waits ≡ must_wait step text →
    next_line step quiet_now (drop fed texts) ≡ cond (waits && not quiet_now) [] (line text ∷ [])
next_fed step quiet_now waits texts fed text is waiting =
    ap (λ left. next_line step quiet_now left) (some_left texts fed text is) ∙ ap (λ w. cond (w && not quiet_now) [] (line text ∷ [])) (sym waiting)

-- a line that need not wait, or waits no longer, is fed
pub is_fed : (step quiet_now waits : Bool) (texts : List (List ℕ)) (fed : ℕ) (text : List ℕ) → slice_get texts fed ≡ Some text → waits ≡ must_wait step text →
    (waits && not quiet_now) ≡ false →
    line text ∷ [] ≡ next_line step quiet_now (drop fed texts)
is_fed step quiet_now waits texts fed text is waiting free =
    sym (next_fed step quiet_now waits texts fed text is waiting ∙ ap (λ (b : Bool). cond b [] (line text ∷ [])) free)

-- any other is not
pub not_fed : (step quiet_now waits : Bool) (texts : List (List ℕ)) (fed : ℕ) (text : List ℕ) → slice_get texts fed ≡ Some text → waits ≡ must_wait step text →
    waits ≡ true → quiet_now ≡ false →
    [] ≡ next_line step quiet_now (drop fed texts)
not_fed step quiet_now waits texts fed text is waiting must loud =
    sym (next_fed step quiet_now waits texts fed text is waiting ∙ ap (λ (b : Bool). cond (b && not quiet_now) [] (line text ∷ [])) must ∙ ap (λ (b : Bool). cond (not b) [] (line text ∷ [])) loud)
