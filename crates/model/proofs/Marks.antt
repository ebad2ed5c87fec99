-- Every output has a record, and its route is a path.
use Rattle.std.proofs.Common.{◌≡◌, ℕ, zero, suc, ◌<◌, ◌≤◌, Bool, true, false, cond, List, [], ◌∷◌, ◌++◌, map, length, get_or, Some, None, sym, refl, ap, ◌∙◌, subst, ap₂, arith}
use mathlib.Core.List.{map-append}
use Rattle.model.specs.Plans.{PlanMeaning, Passage}
use Rattle.model.specs.Routes.{Step, Route, Along, IsPath, end_from, Joined}
use Rattle.model.specs.Patterns.{Letter, Lists, appended, Tree, Output}
use Rattle.model.specs.Patterns.Output.{one, one^, stay, join, left, right, zero_times, once_more, at_least_once, without, with_it}
use Rattle.model.specs.Records.{Line, carries, marked, step_of}
use Rattle.model.proofs.Bounds.{within, numbered}

cond_append : (b : Bool) (p : ℕ) (u v : List ℕ) → cond b (p ∷ (u ++ v)) (u ++ v) ≡ cond b (p ∷ u) u ++ v
cond_append true p u v = refl
cond_append false p u v = refl

pub marked_append : (z : Letter) (xs ys : List Line) → marked z (xs ++ ys) ≡ marked z xs ++ marked z ys
marked_append z [] ys = refl
marked_append z (x ∷ xs) ys = ap (λ (u : List ℕ). cond (carries z x.mark) (x.number ∷ u) u) (marked_append z xs ys) ∙ cond_append (carries z x.mark) x.number (marked z xs) (marked z ys)

-- a record that gives the route and the lists
pub record Marking (r : Route) (m : Lists) : Type 0 where
  pub lines : List Line
  pub steps_are : map step_of lines ≡ r.steps
  pub lists_are : (z : Letter) → marked z lines ≡ m z

pub join_markings : (r q t : Route) (m n : Lists) → Joined r q t → Marking r m → Marking q n → Marking t (appended m n)
join_markings r q t m n j x y = record { lines = x.lines ++ y.lines; steps_are = map-append step_of x.lines y.lines ∙ ap₂ ◌++◌ x.steps_are y.steps_are ∙ sym j.on; lists_are = λ z. marked_append z x.lines y.lines ∙ ap₂ ◌++◌ (x.lists_are z) (y.lists_are z) }

pub marking : {pl : PlanMeaning} {p : Tree} {r : Route} {m : Lists} → Output pl p r m → Marking r m
marking (one {s = s} e f) = record { lines = record { number = s.number; reached = s.reached; mark = None } ∷ []; steps_are = refl; lists_are = λ z. refl }
marking (one^ {z = z} {s = s} e f) = record { lines = record { number = s.number; reached = s.reached; mark = Some z } ∷ []; steps_are = refl; lists_are = λ w. refl }
marking (stay h) = record { lines = []; steps_are = refl; lists_are = λ z. refl }
marking (join {r = r} {q = q} {t = t} {m = m} {n = n} a b j) = join_markings r q t m n j (marking a) (marking b)
marking (left a) = marking a
marking (right a) = marking a
marking (zero_times h) = record { lines = []; steps_are = refl; lists_are = λ z. refl }
marking (once_more {r = r} {q = q} {t = t} {m = m} {n = n} a b j) = join_markings r q t m n j (marking a) (marking b)
marking (at_least_once {r = r} {q = q} {t = t} {m = m} {n = n} a b j) = join_markings r q t m n j (marking a) (marking b)
marking (without h) = record { lines = []; steps_are = refl; lists_are = λ z. refl }
marking (with_it a) = marking a

pub along_append : (pl : PlanMeaning) (v : ℕ) (ss ts : List Step) → Along pl v ss → Along pl (end_from v ss) ts → Along pl v (ss ++ ts)
along_append pl v [] ts a b = b
along_append pl v (s ∷ ss) ts a b = (a.0, along_append pl s.reached ss ts a.1 b)

pub join_paths : (pl : PlanMeaning) (r q t : Route) → Joined r q t → IsPath pl r → IsPath pl q → IsPath pl t
join_paths pl r q t j a b =
    let P : ℕ → Type 0 = λ v. v < pl.zones in
    let Q : ℕ → Type 0 = λ v. Along pl v q.steps in
    let R : ℕ → Type 0 = λ v. Along pl v (r.steps ++ q.steps) in
    let S : List Step → Type 0 = λ ss. Along pl t.start ss in
    (subst P (sym j.from) a.0, subst S (sym j.on) (subst R (sym j.from) (along_append pl r.start r.steps q.steps a.1 (subst Q (sym j.meet) b.1))))

pub is_path : {pl : PlanMeaning} {p : Tree} {r : Route} {m : Lists} → Output pl p r m → IsPath pl r
is_path {pl} (one {v = v} {k = k} {s = s} e f) = ((within pl s.number (record { origin = v; destination = s.reached; kind = k }) e).0, ((k, e), tt))
is_path {pl} (one^ {v = v} {k = k} {s = s} e f) = ((within pl s.number (record { origin = v; destination = s.reached; kind = k }) e).0, ((k, e), tt))
is_path (stay h) = (h, tt)
is_path {pl} (join {r = r} {q = q} {t = t} a b j) = join_paths pl r q t j (is_path a) (is_path b)
is_path (left a) = is_path a
is_path (right a) = is_path a
is_path (zero_times h) = (h, tt)
is_path {pl} (once_more {r = r} {q = q} {t = t} a b j) = join_paths pl r q t j (is_path a) (is_path b)
is_path {pl} (at_least_once {r = r} {q = q} {t = t} a b j) = join_paths pl r q t j (is_path a) (is_path b)
is_path (without h) = (h, tt)
is_path (with_it a) = is_path a

-- what a path gives to the laws of a rule
pub along_zone : (pl : PlanMeaning) (v : ℕ) (ss : List Step) → v < pl.zones → Along pl v ss → (i : ℕ) → i ≤ length ss → get_or (v ∷ map (λ (s : Step). s.reached) ss) i 0 < pl.zones
along_zone pl v ss h a zero l = h
along_zone pl v [] h a (suc i) l = absurd (omega arith)
along_zone pl v (s ∷ ss) h a (suc i) l = along_zone pl s.reached ss (within pl s.number _ a.0.1).1 a.1 i (omega arith)

pub along_number : (pl : PlanMeaning) (v : ℕ) (ss : List Step) → Along pl v ss → (i : ℕ) → i < length ss → get_or (map (λ (s : Step). s.number) ss) i 0 < 256
along_number pl v [] a i l = absurd (omega arith)
along_number pl v (s ∷ ss) a zero l = numbered pl s.number _ a.0.1
along_number pl v (s ∷ ss) a (suc i) l = along_number pl s.reached ss a.1 i (omega arith)

pub record Reaches (pl : PlanMeaning) (p z : ℕ) : Type 0 where
  pub passing : Passage
  pub is : pl.passage p ≡ Some passing
  pub to : passing.destination ≡ z

pub along_reaches : (pl : PlanMeaning) (v : ℕ) (ss : List Step) → Along pl v ss → (i : ℕ) → i < length ss → Reaches pl (get_or (map (λ (s : Step). s.number) ss) i 0) (get_or (map (λ (s : Step). s.reached) ss) i 0)
along_reaches pl v [] a i l = absurd (omega arith)
along_reaches pl v (s ∷ ss) a zero l = record { passing = _; is = a.0.1; to = refl }
along_reaches pl v (s ∷ ss) a (suc i) l = along_reaches pl s.reached ss a.1 i (omega arith)

pub reaches_one : (pl : PlanMeaning) (p q y z : ℕ) → p ≡ q → Reaches pl p y → Reaches pl q z → y ≡ z
reaches_one pl p q y z e a b =
    let c : a.passing ≡ b.passing = cc (a.is, b.is, ap pl.passage e) in
    sym a.to ∙ ap (λ (x : Passage). x.destination) c ∙ b.to
