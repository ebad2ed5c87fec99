-- Small floors, and the listings that questions on them have.
use Rattle.std.specs.Prelude.{◌≡◌, ℕ, ◌<◌, ◌≤◌, Bool, true, false, cond, ◌&&◌, T, List, [], ◌∷◌, Some, None, Option, ◌==◌, nat_lt, refl}
use Rattle.std.proofs.Common.{sym, subst, eqb→eq, ltb→lt, lit≤}
use mathlib.Core.List.{Memᴰ}
use Rattle.std.specs.Float.Ieee.Fits.{and_l, and_r}
use Rattle.model.specs.declared.Label.TheVariants.{Kind, Any}
use Rattle.model.specs.declared.Choice.{Choice}
use Rattle.model.specs.declared.Choice.TheVariants.{All, Shortest}
use Rattle.model.specs.Plans.{PlanMeaning, Passage, BoundsBy}
use Rattle.model.specs.Patterns.{Letter, A, B, C, D, E, F, G, H, Tree, name, empty, ◌then◌, ◌or◌, star, plus, maybe}
use Rattle.model.specs.Rules.{RuleMeaning, trail, acyclic, simple}
use Rattle.model.specs.Records.{Answer, rec_words}
use Rattle.model.specs.Questions.{EnquiryMeaning, Question, IsAnswer}
use Rattle.model.specs.Runs.{Event, Happens, Full}

-- A passage with its number.
pub record Numbered : Type 0 where
  pub number : ℕ
  pub is : Passage

-- The passage of the number p from the zone a to the zone b, of the kind k.
abbrev pub leads : ℕ → ℕ → ℕ → ℕ → Numbered
leads p a b k = record { number = p; is = record { origin = a; destination = b; kind = k } }

-- The passage that a number names in a list, if any.
abbrev pub named : List Numbered → ℕ → Option Passage
named [] p = None
named (e ∷ es) p = cond (p == e.number) (Some e.is) (named es p)

-- Whether every passage of a list is within the bounds of a plan with z zones.
abbrev pub fine : ℕ → List Numbered → Bool
fine z [] = true
fine z (e ∷ es) = (nat_lt e.number 256 && (nat_lt e.is.origin z && (nat_lt e.is.destination z && nat_lt e.is.kind 8))) && fine z es

-- Such a list keeps the bounds.
pub keeps_bounds : (z : ℕ) (es : List Numbered) → T (fine z es) → (p : ℕ) → BoundsBy z p (named es p)
keeps_bounds z [] t p = tt
keeps_bounds z (e ∷ es) t p = go (p == e.number) refl (keeps_bounds z es (and_r number_fine (fine z es) t) p)
  where
    kind_fine : Bool
    kind_fine = nat_lt e.is.kind 8

    destination_fine : Bool
    destination_fine = nat_lt e.is.destination z && kind_fine

    origin_fine : Bool
    origin_fine = nat_lt e.is.origin z && destination_fine

    number_fine : Bool
    number_fine = nat_lt e.number 256 && origin_fine

    here : T number_fine
    here = and_l number_fine (fine z es) t

    origin_here : T origin_fine
    origin_here = and_r (nat_lt e.number 256) origin_fine here

    destination_here : T destination_fine
    destination_here = and_r (nat_lt e.is.origin z) destination_fine origin_here

    Low : ℕ → Type 0
    Low n = n < 256

    B : Bool → Type 0
    B c = T c

    go : (c : Bool) → (p == e.number) ≡ c → BoundsBy z p (named es p) → BoundsBy z p (cond c (Some e.is) (named es p))
    go true i r = (subst Low (sym (eqb→eq p e.number (subst B (sym i) tt))) (ltb→lt e.number 256 (and_l (nat_lt e.number 256) origin_fine here)), ltb→lt e.is.origin z (and_l (nat_lt e.is.origin z) destination_fine origin_here), ltb→lt e.is.destination z (and_l (nat_lt e.is.destination z) kind_fine destination_here), ltb→lt e.is.kind 8 (and_r (nat_lt e.is.destination z) kind_fine destination_here))
    go false i r = r

-- The plan with z zones and these passages.
abbrev pub plan_of : (z : ℕ) → 1 ≤ z → z ≤ 64 → (es : List Numbered) → T (fine z es) → PlanMeaning
plan_of z a b es t = record { zones = z; passage = named es; some_zone = a; few_zones = b; bounded = keeps_bounds z es t }

-- The passages of floor E: badge doors lead from 0 to 1 and 2, pin doors from 1 and 2 to 3, and a free one from 1 to 2.
abbrev pub floor_e_passages : List Numbered
floor_e_passages = leads 0 0 1 1 ∷ leads 1 0 2 1 ∷ leads 2 1 3 2 ∷ leads 4 1 2 0 ∷ leads 3 2 3 2 ∷ []

-- Floor E: four zones, with these passages.
abbrev pub floor_e : PlanMeaning
floor_e = plan_of 4 (lit≤ tt) (lit≤ tt) floor_e_passages tt

-- Floor L: one zone, and a free passage from it to itself.
abbrev pub floor_l : PlanMeaning
floor_l = plan_of 1 (lit≤ tt) (lit≤ tt) (leads 7 0 0 0 ∷ []) tt

-- The grid of 2 by 2: free to the east and west, badge to the south and north.
abbrev pub grid_22 : PlanMeaning
grid_22 = plan_of 4 (lit≤ tt) (lit≤ tt) (leads 0 0 1 0 ∷ leads 1 0 2 1 ∷ leads 5 1 3 1 ∷ leads 6 1 0 0 ∷ leads 8 2 3 0 ∷ leads 11 2 0 1 ∷ leads 14 3 2 0 ∷ leads 15 3 1 1 ∷ []) tt

-- The same with the passage 5 shut.
abbrev pub grid_22_shut : PlanMeaning
grid_22_shut = plan_of 4 (lit≤ tt) (lit≤ tt) (leads 0 0 1 0 ∷ leads 1 0 2 1 ∷ leads 6 1 0 0 ∷ leads 8 2 3 0 ∷ leads 11 2 0 1 ∷ leads 14 3 2 0 ∷ leads 15 3 1 1 ∷ []) tt

-- The grid of 1 by 2.
abbrev pub grid_12 : PlanMeaning
grid_12 = plan_of 2 (lit≤ tt) (lit≤ tt) (leads 0 0 1 0 ∷ leads 6 1 0 0 ∷ []) tt

-- A passage of the kind k.
abbrev pub of_kind : ℕ → Tree
of_kind k = name (Kind k) None

-- The same, collected under the letter z.
abbrev pub collected : ℕ → Letter → Tree
collected k z = name (Kind k) (Some z)

-- A passage of any kind.
abbrev pub any : Tree
any = name Any None

-- An example: an enquiry, a question, and the records that it must list.
pub record Example : Type 0 where
  pub enquiry : EnquiryMeaning
  pub question : Question
  pub table : List (List ℕ)

-- An example by its parts: plan, pattern, rule, start, target, choice and records.
abbrev pub example : PlanMeaning → Tree → RuleMeaning → ℕ → ℕ → Choice → List (List ℕ) → Example
example pl p r s t c ws = record { enquiry = record { plan = pl; pattern = p; rule = r }; question = record { start = s; target = t; choice = c }; table = ws }

-- An example comes out: the record of every answer is in its table, every record of its table is an answer's, and every
-- full listing under its question is its table.
pub record ComesOut (x : Example) : Type 0 where
  pub answers_in : (a : Answer) → IsAnswer x.enquiry x.question a → Memᴰ (rec_words a) x.table
  pub only_answers : (w : List ℕ) → Memᴰ w x.table → (a : Answer) × IsAnswer x.enquiry x.question a × (w ≡ rec_words a)
  pub listing : (es : List Event) (ls : List (List ℕ)) → Happens x.enquiry es → Full es x.question ls → ls ≡ x.table

-- Every example of a table comes out.
abbrev pub AllComeOut : List Example → Type 0
AllComeOut [] = Unit {0}
AllComeOut (x ∷ xs) = ComesOut x × AllComeOut xs

-- A badge door under A, perhaps a free passage, and a pin door under B.
abbrev pub badge_free_pin : Tree
badge_free_pin = collected 1 A then (maybe (of_kind 0) then collected 2 B)

-- Three routes, with their lists.
abbrev pub all_three : Example
all_three = example floor_e badge_free_pin trail 0 3 All ((2 ∷ 0 ∷ 0 ∷ 1 ∷ 1 ∷ 2 ∷ 3 ∷ 2 ∷ []) ∷ (3 ∷ 0 ∷ 0 ∷ 1 ∷ 1 ∷ 4 ∷ 2 ∷ 0 ∷ 3 ∷ 3 ∷ 2 ∷ []) ∷ (2 ∷ 0 ∷ 1 ∷ 2 ∷ 1 ∷ 3 ∷ 3 ∷ 2 ∷ []) ∷ [])

-- Two of them are shortest.
abbrev pub shortest_two : Example
shortest_two = example floor_e badge_free_pin trail 0 3 Shortest ((2 ∷ 0 ∷ 0 ∷ 1 ∷ 1 ∷ 2 ∷ 3 ∷ 2 ∷ []) ∷ (2 ∷ 0 ∷ 1 ∷ 2 ∷ 1 ∷ 3 ∷ 3 ∷ 2 ∷ []) ∷ [])

-- Two readings of one answer are one answer.
abbrev pub read_twice : Example
read_twice = example floor_e ((collected 1 A then of_kind 2) or (collected 1 A then of_kind 2)) trail 0 3 All ((2 ∷ 0 ∷ 0 ∷ 1 ∷ 1 ∷ 2 ∷ 3 ∷ 0 ∷ []) ∷ (2 ∷ 0 ∷ 1 ∷ 2 ∷ 1 ∷ 3 ∷ 3 ∷ 0 ∷ []) ∷ [])

-- One route with different lists is two answers.
abbrev pub two_lists : Example
two_lists = example floor_e ((collected 1 A then of_kind 2) or (of_kind 1 then collected 2 A)) trail 0 3 All ((2 ∷ 0 ∷ 0 ∷ 1 ∷ 0 ∷ 2 ∷ 3 ∷ 1 ∷ []) ∷ (2 ∷ 0 ∷ 0 ∷ 1 ∷ 1 ∷ 2 ∷ 3 ∷ 0 ∷ []) ∷ (2 ∷ 0 ∷ 1 ∷ 2 ∷ 0 ∷ 3 ∷ 3 ∷ 1 ∷ []) ∷ (2 ∷ 0 ∷ 1 ∷ 2 ∷ 1 ∷ 3 ∷ 3 ∷ 0 ∷ []) ∷ [])

-- A loop is a trail, once.
abbrev pub loop_trail : Example
loop_trail = example floor_l (star (of_kind 0)) trail 0 0 All ((0 ∷ 0 ∷ []) ∷ (1 ∷ 0 ∷ 7 ∷ 0 ∷ 0 ∷ []) ∷ [])

-- It is simple too.
abbrev pub loop_simple : Example
loop_simple = example floor_l (star (of_kind 0)) simple 0 0 All ((0 ∷ 0 ∷ []) ∷ (1 ∷ 0 ∷ 7 ∷ 0 ∷ 0 ∷ []) ∷ [])

-- It is not acyclic.
abbrev pub loop_acyclic : Example
loop_acyclic = example floor_l (star (of_kind 0)) acyclic 0 0 All ((0 ∷ 0 ∷ []) ∷ [])

-- No passage is used twice.
abbrev pub loop_twice : Example
loop_twice = example floor_l (of_kind 0 then of_kind 0) trail 0 0 All []

-- Two ways across the grid, in the order of their passages.
abbrev pub grid_both : Example
grid_both = example grid_22 (any then any) simple 0 3 All ((2 ∷ 0 ∷ 0 ∷ 1 ∷ 0 ∷ 5 ∷ 3 ∷ 0 ∷ []) ∷ (2 ∷ 0 ∷ 1 ∷ 2 ∷ 0 ∷ 8 ∷ 3 ∷ 0 ∷ []) ∷ [])

-- With 5 shut, one.
abbrev pub grid_one : Example
grid_one = example grid_22_shut (any then any) simple 0 3 All ((2 ∷ 0 ∷ 1 ∷ 2 ∷ 0 ∷ 8 ∷ 3 ∷ 0 ∷ []) ∷ [])

-- A letter under a star.
abbrev pub grid_star : Example
grid_star = example grid_12 (star (collected 0 A)) trail 0 1 All ((1 ∷ 0 ∷ 0 ∷ 1 ∷ 1 ∷ []) ∷ [])

-- One or more is not none.
abbrev pub loop_plus : Example
loop_plus = example floor_l (plus (of_kind 0)) trail 0 0 All ((1 ∷ 0 ∷ 7 ∷ 0 ∷ 0 ∷ []) ∷ [])

-- `empty` stays where it is.
abbrev pub loop_empty : Example
loop_empty = example floor_l empty trail 0 0 All ((0 ∷ 0 ∷ []) ∷ [])

-- `any` collects too, each passage of a repetition in turn.
abbrev pub all_collected : Example
all_collected = example floor_e (plus (name Any (Some H))) trail 0 3 All ((2 ∷ 0 ∷ 0 ∷ 1 ∷ 8 ∷ 2 ∷ 3 ∷ 8 ∷ []) ∷ (3 ∷ 0 ∷ 0 ∷ 1 ∷ 8 ∷ 4 ∷ 2 ∷ 8 ∷ 3 ∷ 3 ∷ 8 ∷ []) ∷ (2 ∷ 0 ∷ 1 ∷ 2 ∷ 8 ∷ 3 ∷ 3 ∷ 8 ∷ []) ∷ [])

-- One passage under each letter and under none: nine answers, in the order of their marks.
abbrev pub each_letter : Example
each_letter = example floor_e (collected 2 H or collected 2 G or collected 2 F or collected 2 E or of_kind 2 or collected 2 D or collected 2 C or collected 2 B or collected 2 A) trail 1 3 All ((1 ∷ 1 ∷ 2 ∷ 3 ∷ 0 ∷ []) ∷ (1 ∷ 1 ∷ 2 ∷ 3 ∷ 1 ∷ []) ∷ (1 ∷ 1 ∷ 2 ∷ 3 ∷ 2 ∷ []) ∷ (1 ∷ 1 ∷ 2 ∷ 3 ∷ 3 ∷ []) ∷ (1 ∷ 1 ∷ 2 ∷ 3 ∷ 4 ∷ []) ∷ (1 ∷ 1 ∷ 2 ∷ 3 ∷ 5 ∷ []) ∷ (1 ∷ 1 ∷ 2 ∷ 3 ∷ 6 ∷ []) ∷ (1 ∷ 1 ∷ 2 ∷ 3 ∷ 7 ∷ []) ∷ (1 ∷ 1 ∷ 2 ∷ 3 ∷ 8 ∷ []) ∷ [])

-- A route may pass its target and return to it, and the shorter comes first.
abbrev pub there_and_back : Example
there_and_back = example grid_12 (star any) trail 0 0 All ((0 ∷ 0 ∷ []) ∷ (2 ∷ 0 ∷ 0 ∷ 1 ∷ 0 ∷ 6 ∷ 0 ∷ 0 ∷ []) ∷ [])

-- All of them.
abbrev pub examples : List Example
examples = all_three ∷ shortest_two ∷ read_twice ∷ two_lists ∷ loop_trail ∷ loop_simple ∷ loop_acyclic ∷ loop_twice ∷ grid_both ∷ grid_one ∷ grid_star ∷ loop_plus ∷ loop_empty ∷ all_collected ∷ each_letter ∷ there_and_back ∷ []
