-- Outputs by their lines: what a pattern gives, read from left to right.
use Rattle.std.proofs.Common.{◌≡◌, ℕ, ◌<◌, cond, List, [], ◌∷◌, ◌++◌, map, Some, None, Option, sym, refl, ap, ◌∙◌, subst, ap₂}
use mathlib.Core.List.{map-append}
use Rattle.model.specs.declared.Label.{Label}
use Rattle.model.specs.Plans.{PlanMeaning}
use Rattle.model.specs.Routes.{Route, end_from, Joined}
use Rattle.model.specs.Patterns.{Letter, Lists, no_lists, only, appended, Fits, Tree, name, empty, ◌then◌, ◌or◌, star, plus, maybe, Output}
use Rattle.model.specs.Patterns.Output.{one, one^, stay, join, left, right, zero_times, once_more, at_least_once, without, with_it}
use Rattle.model.specs.Records.{Line, carries, marked, step_of}
use Rattle.model.proofs.Marks.{marked_append}

-- The zone in which lines from a zone end.
abbrev pub end_lines : ℕ → List Line → ℕ
end_lines v ls = end_from v (map step_of ls)

-- The passage of the line leads from the zone v, and is of the kind k.
abbrev pub Via : PlanMeaning → ℕ → Line → ℕ → Type 0
Via pl v x k = pl.passage x.number ≡ Some (record { origin = v; destination = x.reached; kind = k })

-- The pattern gives the lines from the zone v.
pub data Word (pl : PlanMeaning) : Tree → ℕ → List Line → Type 0 where
  w_name : {l : Label} {o : Option Letter} {v k : ℕ} {x : Line} → Via pl v x k → Fits l k → x.mark ≡ o → Word pl (name l o) v (x ∷ [])
  w_empty : {v : ℕ} → v < pl.zones → Word pl empty v []
  w_then : {p q : Tree} {v : ℕ} {ls ks zs : List Line} → Word pl p v ls → Word pl q (end_lines v ls) ks → zs ≡ ls ++ ks → Word pl (p then q) v zs
  w_left : {p q : Tree} {v : ℕ} {ls : List Line} → Word pl p v ls → Word pl (p or q) v ls
  w_right : {p q : Tree} {v : ℕ} {ls : List Line} → Word pl q v ls → Word pl (p or q) v ls
  w_none : {p : Tree} {v : ℕ} → v < pl.zones → Word pl (star p) v []
  w_more : {p : Tree} {v : ℕ} {ls ks zs : List Line} → Word pl p v ls → Word pl (star p) (end_lines v ls) ks → zs ≡ ls ++ ks → Word pl (star p) v zs
  w_plus : {p : Tree} {v : ℕ} {ls ks zs : List Line} → Word pl p v ls → Word pl (star p) (end_lines v ls) ks → zs ≡ ls ++ ks → Word pl (plus p) v zs
  w_skip : {p : Tree} {v : ℕ} → v < pl.zones → Word pl (maybe p) v []
  w_take : {p : Tree} {v : ℕ} {ls : List Line} → Word pl p v ls → Word pl (maybe p) v ls

-- An output, by its lines.
abbrev pub Out : PlanMeaning → Tree → ℕ → List Line → Type 0
Out pl p v ls = Output pl p (record { start = v; steps = map step_of ls }) (λ z. marked z ls)

pub joined : (v : ℕ) (ls ks zs : List Line) → zs ≡ ls ++ ks → Joined (record { start = v; steps = map step_of ls }) (record { start = end_lines v ls; steps = map step_of ks }) (record { start = v; steps = map step_of zs })
joined v ls ks zs e = record { meet = refl; from = refl; on = ap (λ (x : List Line). map step_of x) e ∙ map-append step_of ls ks }

pub lists_joined : (ls ks zs : List Line) → zs ≡ ls ++ ks → appended (λ z. marked z ls) (λ z. marked z ks) ≡ (λ z. marked z zs)
lists_joined ls ks zs e = λ i z. (sym (marked_append z ls ks) ∙ ap (λ (x : List Line). marked z x) (sym e)) i

pub word→output : {pl : PlanMeaning} {p : Tree} {v : ℕ} {ls : List Line} → Word pl p v ls → Out pl p v ls
word→output {pl} (w_name {l = l} {o = None} {v = v} {x = x} a f m) =
    let P : Lists → Type 0 = λ y. Output pl (name l None) (record { start = v; steps = step_of x ∷ [] }) y in
    let e : no_lists ≡ (λ z. marked z (x ∷ [])) = λ i z. cond (carries z (sym m i)) (x.number ∷ []) [] in
    subst P e (one {s = step_of x} a f)
word→output {pl} (w_name {l = l} {o = Some w} {v = v} {x = x} a f m) =
    let P : Lists → Type 0 = λ y. Output pl (name l (Some w)) (record { start = v; steps = step_of x ∷ [] }) y in
    let e : only w x.number ≡ (λ z. marked z (x ∷ [])) = λ i z. cond (carries z (sym m i)) (x.number ∷ []) [] in
    subst P e (one^ {s = step_of x} a f)
word→output (w_empty h) = stay h
word→output {pl} (w_then {p = p} {q = q} {v = v} {ls = ls} {ks = ks} {zs = zs} a b e) =
    let P : Lists → Type 0 = λ y. Output pl (p then q) (record { start = v; steps = map step_of zs }) y in
    subst P (lists_joined ls ks zs e) (join (word→output a) (word→output b) (joined v ls ks zs e))
word→output (w_left a) = left (word→output a)
word→output (w_right a) = right (word→output a)
word→output (w_none h) = zero_times h
word→output {pl} (w_more {p = p} {v = v} {ls = ls} {ks = ks} {zs = zs} a b e) =
    let P : Lists → Type 0 = λ y. Output pl (star p) (record { start = v; steps = map step_of zs }) y in
    subst P (lists_joined ls ks zs e) (once_more (word→output a) (word→output b) (joined v ls ks zs e))
word→output {pl} (w_plus {p = p} {v = v} {ls = ls} {ks = ks} {zs = zs} a b e) =
    let P : Lists → Type 0 = λ y. Output pl (plus p) (record { start = v; steps = map step_of zs }) y in
    subst P (lists_joined ls ks zs e) (at_least_once (word→output a) (word→output b) (joined v ls ks zs e))
word→output (w_skip h) = without h
word→output (w_take a) = with_it (word→output a)

-- Lines that write down a route with its lists.
pub record Spelt (pl : PlanMeaning) (p : Tree) (r : Route) (m : Lists) : Type 0 where
  pub lines : List Line
  pub word : Word pl p r.start lines
  pub steps_are : map step_of lines ≡ r.steps
  pub lists_are : (z : Letter) → marked z lines ≡ m z

-- two spelt parts
pub record Two (pl : PlanMeaning) (p q : Tree) (t : Route) (k : Lists) : Type 0 where
  pub ls : List Line
  pub ks : List Line
  pub w₁ : Word pl p t.start ls
  pub w₂ : Word pl q (end_lines t.start ls) ks
  pub steps_are : map step_of (ls ++ ks) ≡ t.steps
  pub lists_are : (z : Letter) → marked z (ls ++ ks) ≡ k z

pub two : (pl : PlanMeaning) (p q : Tree) (r u t : Route) (m n : Lists) → Joined r u t → Spelt pl p r m → Spelt pl q u n → Two pl p q t (appended m n)
two pl p q r u t m n j a b =
    let P : ℕ → Type 0 = λ v. Word pl p v a.lines in
    let Q : ℕ → Type 0 = λ v. Word pl q v b.lines in
    let e : u.start ≡ end_lines t.start a.lines = sym j.meet ∙ ap₂ end_from (sym j.from) (sym a.steps_are) in
    record { ls = a.lines; ks = b.lines; w₁ = subst P (sym j.from) a.word; w₂ = subst Q e b.word; steps_are = map-append step_of a.lines b.lines ∙ ap₂ ◌++◌ a.steps_are b.steps_are ∙ sym j.on; lists_are = λ z. marked_append z a.lines b.lines ∙ ap₂ ◌++◌ (a.lists_are z) (b.lists_are z) }

pub output→word : {pl : PlanMeaning} {p : Tree} {r : Route} {m : Lists} → Output pl p r m → Spelt pl p r m
output→word (one {s = s} e f) = record { lines = record { number = s.number; reached = s.reached; mark = None } ∷ []; word = w_name e f refl; steps_are = refl; lists_are = λ z. refl }
output→word (one^ {z = z} {s = s} e f) = record { lines = record { number = s.number; reached = s.reached; mark = Some z } ∷ []; word = w_name e f refl; steps_are = refl; lists_are = λ w. refl }
output→word (stay h) = record { lines = []; word = w_empty h; steps_are = refl; lists_are = λ z. refl }
output→word {pl} (join {x = p} {y = q} {r = r} {q = u} {t = t} {m = m} {n = n} a b j) = let x = two pl p q r u t m n j (output→word a) (output→word b) in record { lines = x.ls ++ x.ks; word = w_then x.w₁ x.w₂ refl; steps_are = x.steps_are; lists_are = x.lists_are }
output→word (left a) = let x = output→word a in record { lines = x.lines; word = w_left x.word; steps_are = x.steps_are; lists_are = x.lists_are }
output→word (right a) = let x = output→word a in record { lines = x.lines; word = w_right x.word; steps_are = x.steps_are; lists_are = x.lists_are }
output→word (zero_times h) = record { lines = []; word = w_none h; steps_are = refl; lists_are = λ z. refl }
output→word {pl} (once_more {x = p} {r = r} {q = u} {t = t} {m = m} {n = n} a b j) = let x = two pl p (star p) r u t m n j (output→word a) (output→word b) in record { lines = x.ls ++ x.ks; word = w_more x.w₁ x.w₂ refl; steps_are = x.steps_are; lists_are = x.lists_are }
output→word {pl} (at_least_once {x = p} {r = r} {q = u} {t = t} {m = m} {n = n} a b j) = let x = two pl p (star p) r u t m n j (output→word a) (output→word b) in record { lines = x.ls ++ x.ks; word = w_plus x.w₁ x.w₂ refl; steps_are = x.steps_are; lists_are = x.lists_are }
output→word (without h) = record { lines = []; word = w_skip h; steps_are = refl; lists_are = λ z. refl }
output→word (with_it a) = let x = output→word a in record { lines = x.lines; word = w_take x.word; steps_are = x.steps_are; lists_are = x.lists_are }
