-- Facts about tests that the other proofs share: conjunctions, choices, and tests over a list.
use Prim.Native.Nat.{ℕ, zero, suc, ◌≤◌, ◌<◌}
use mathlib.Core.Path.{◌≡◌, refl, sym, ◌∙◌, ap}
use mathlib.Core.Bool.{Bool, true, false, ◌&&◌, beq, false≢true, and_comm, and_assoc}
use mathlib.Core.List.{List, [], ◌∷◌, map}
use lib.ListN.{length, get_or, take, set, replicate}
use borrow.Author.Tests.{lt-ltb, le-ltb, le-leb, lt-leb, eq-eqb, ne_eqb}
use native.Mathlib.Decide.{dec_lt}
use native.Mathlib.Omega.{arith}
use Rattle.std.specs.Prelude.{if◌then◌else◌}
use Rattle.rules.specs.Basics.{every, flag}

pub and_left : (a b : Bool) → (a && b) ≡ true → a ≡ true
and_left true b e = refl
and_left false b e = e

pub and_right : (a b : Bool) → (a && b) ≡ true → b ≡ true
and_right true b e = e
and_right false b e = absurd (false≢true e)

pub and_both : (a b : Bool) → a ≡ true → b ≡ true → (a && b) ≡ true
and_both a b p q = rw p q

pub same : (x y : Bool) → beq x y ≡ true → x ≡ y
same true true e = refl
same true false e = absurd (false≢true e)
same false true e = absurd (false≢true e)
same false false e = refl

pub flag-le : (on : Bool) → flag on ≤ 1
flag-le true = omega arith
flag-le false = omega arith

-- by a test, and what it tells
pub by-test : {A : Type 0} (test : Bool) → (test ≡ true → A) → (test ≡ false → A) → A
by-test true f g = f refl
by-test false f g = g refl

-- what holds of either choice where its test tells so holds of the choice
pub choice : {A : Type 0} (P : A → Type 0) (test : Bool) (a b : A) →
    (test ≡ true → P a) → (test ≡ false → P b) → P (if test then a else b)
choice P true a b f g = f refl
choice P false a b f g = g refl

-- a test of every number below n, which antt computes, and what it tells of one of them
abbrev pub all_below : ℕ → (ℕ → Bool) → Bool
all_below zero test = true
all_below (suc n) test = test n && all_below n test

pub all-below : (n : ℕ) (test : ℕ → Bool) → all_below n test ≡ true → (a : ℕ) → a < n → test a ≡ true
all-below zero test e a h = absurd (omega arith)
all-below (suc n) test e a h =
    elim (dec_lt a n) [
      | yes l ↦ all-below n test (and_right (test n) (all_below n test) e) a l
      | no g ↦ let q : n ≡ a = omega arith in rw q at (and_left (test n) (all_below n test) e)
    ]

-- tests over a list
module _ {A : Type 0} (test : A → Bool) where
  pub every-at : (xs : List A) (i : ℕ) (d : A) → test d ≡ true → every test xs ≡ true → test (get_or xs i d) ≡ true
  every-at [] i d h e = h
  every-at (x ∷ xs) zero d h e = and_left (test x) (every test xs) e
  every-at (x ∷ xs) (suc i) d h e = every-at xs i d h (and_right (test x) (every test xs) e)

  -- the first i + 1 elements, after the first i
  pub every_take : (xs : List A) (i : ℕ) (d : A) → i < length xs →
      every test (take (suc i) xs) ≡ (every test (take i xs) && test (get_or xs i d))
  every_take [] i d h = absurd (omega arith)
  every_take (x ∷ xs) zero d h = and_comm (test x) true
  every_take (x ∷ xs) (suc i) d h =
      ap (λ b. test x && b) (every_take xs i d (omega arith)) ∙ sym (and_assoc (test x) (every test (take i xs)) (test (get_or xs i d)))

  pub every_set : (xs : List A) (i : ℕ) (y : A) → test y ≡ true → every test xs ≡ true → every test (set xs i y) ≡ true
  every_set [] i y h e = e
  every_set (x ∷ xs) zero y h e = and_both (test y) (every test xs) h (and_right (test x) (every test xs) e)
  every_set (x ∷ xs) (suc i) y h e =
      and_both (test x) (every test (set xs i y)) (and_left (test x) (every test xs) e)
      (every_set xs i y h (and_right (test x) (every test xs) e))

  pub every-replicate : (n : ℕ) (x : A) → test x ≡ true → every test (replicate n x) ≡ true
  every-replicate zero x h = refl
  every-replicate (suc n) x h = and_both (test x) (every test (replicate n x)) h (every-replicate n x h)

pub every-weaker : {A : Type 0} (test weaker : A → Bool) → ((x : A) → test x ≡ true → weaker x ≡ true) →
    (xs : List A) → every test xs ≡ true → every weaker xs ≡ true
every-weaker test weaker h [] e = refl
every-weaker test weaker h (x ∷ xs) e =
    and_both (weaker x) (every weaker xs) (h x (and_left (test x) (every test xs) e))
    (every-weaker test weaker h xs (and_right (test x) (every test xs) e))

pub every_map : {A B : Type 0} (test : A → Bool) (goal : B → Bool) (f : A → B) →
    ((x : A) → test x ≡ true → goal (f x) ≡ true) →
    (xs : List A) → every test xs ≡ true → every goal (map f xs) ≡ true
every_map test goal f h [] e = refl
every_map test goal f h (x ∷ xs) e =
    and_both (goal (f x)) (every goal (map f xs)) (h x (and_left (test x) (every test xs) e))
    (every_map test goal f h xs (and_right (test x) (every test xs) e))

-- the tests of a definition, from what the tests of the code told
pub ruleset tests = (lt-ltb, le-ltb, le-leb, lt-leb, eq-eqb, ne_eqb)
