-- No locality starves: the bound of demand 3 over the model, from any model in which the locality waits. Assumes nothing.
use mathlib.Core.Path.{◌≡◌, refl, sym, ap, ◌∙◌}
use mathlib.Core.Bool.{Bool, true, false, not, cond, ◌&&◌}
use mathlib.Core.List.{List, [], ◌∷◌}
use mathlib.Core.Logic.{◌⊎◌, inl, inr}
use Prim.Native.Nat.{ℕ, zero, suc, ◌+◌, ◌-◌, ◌*◌, ◌≤◌, ◌<◌, zero-le}
use native.Mathlib.Nat.{suc-mul}
use native.Mathlib.Omega.{arith}
use native.Mathlib.Decide.{dec_lt}
use lib.ListN.{length, take}
use lib.Dec.{eqb}
use borrow.Author.Tests.{eqb-true, eqb-false, eq-eqb}
use Rattle.arbiter_model.specs.Model.{Model, Holder, free, held, Event, put, highest, without, step}
use Rattle.arbiter_model.specs.Waits.{run, hands_over, one, handovers, is_request, is_release, is_restart, tally, written, begins, beginnings, while, during, bound}
use Rattle.arbiter_model.specs.Claims.{Served}
use Rattle.arbiter_model.proofs.ModelLaws.{clash, same, wiped, queued, dropped, took, View, quiet, passed, view, Highest, split, highest_held, highest_free}

-- ---- flags as numbers

one≤ : (t : Bool) → one t ≤ 1
one≤ true = omega arith
one≤ false = omega arith

one_is : (t : Bool) → t ≡ true → one t ≡ 1
one_is t e = rw e refl

-- who did not wait and waits has begun to
begun : (a b : Bool) → one b ≤ one a + one (not a && b)
begun true b = omega (arith, one≤ b)
begun false b = omega arith

-- who waits no more than before has not
not_begun : (a b : Bool) → one b ≤ one a → one (not a && b) ≡ 0
not_begun true b l = refl
not_begun false b l = omega arith

put_true : (w : ℕ → Bool) (x y : ℕ) → one (not (w y) && put w x true y) ≤ one (eqb y x)
put_true w x y = by (eqb y x)
  where
    by : (t : Bool) → one (not (w y) && cond t true (w y)) ≤ one t
    by true = one≤ (not (w y) && true)
    by false = omega (arith, not_begun (w y) (w y) (omega arith))

put_false : (w : ℕ → Bool) (x y : ℕ) → one (put w x false y) ≤ one (w y)
put_false w x y = by (eqb y x)
  where
    by : (t : Bool) → one (cond t false (w y)) ≤ one (w y)
    by true = omega arith
    by false = omega arith

-- ---- one event: y is served at most once for each wait

abbrev pub is_at : ℕ → Holder → Bool
is_at y free = false
is_at y (held h) = eqb y h

-- the event is a handover to y
abbrev pub serves_at : ℕ → Model → Event → Bool
serves_at y m e = hands_over m e && is_at y (highest m.waiting)

-- handed to y: it waited, and waits no longer
handed_on : (w : ℕ → Bool) (y : ℕ) → one (is_at y (highest w)) + one (without (highest w) w y) ≤ one (w y)
handed_on w y = by (highest w) refl
  where
    by : (o : Holder) → highest w ≡ o → one (is_at y o) + one (without o w y) ≤ one (w y)
    by free e = omega arith
    by (held h) e = at (eqb y h) refl
      where
        at : (t : Bool) → eqb y h ≡ t → one t + one (cond t false (w y)) ≤ one (w y)
        at true q = rw (eqb-true y h q, (highest_held 5 w h e).waited) (omega arith)
        at false q = omega arith

account : (y : ℕ) (m : Model) (e : Event) → one (serves_at y m e) + one ((step m e).waiting y) ≤ one (m.waiting y) + one (begins y m e)
account y m e = by (view m e)
  where
    by : {n : Model} {h : Bool} → View m e n h → one (h && is_at y (highest m.waiting)) + one (n.waiting y) ≤ one (m.waiting y) + one (not (m.waiting y) && n.waiting y)
    by {n} (quiet p q) = rw p (omega (arith, begun (m.waiting y) (n.waiting y)))
    by (passed p q r) = rw (p, r) (omega (arith, handed_on m.waiting y))

-- a wait begins by a request
by_request : (y : ℕ) (m : Model) (e : Event) → one (begins y m e) ≤ one (is_request y e)
by_request y m e = by (view m e)
  where
    less : (n : Model) → one (n.waiting y) ≤ one (m.waiting y) → one (not (m.waiting y) && n.waiting y) ≤ one (is_request y e)
    less n l = omega (arith, not_begun (m.waiting y) (n.waiting y) l)

    by : {n : Model} {h : Bool} → View m e n h → one (not (m.waiting y) && n.waiting y) ≤ one (is_request y e)
    by {n} (quiet h (same p)) = less n (rw p (omega arith))
    by {n} (quiet h (wiped p q)) = less n (rw q zero-le)
    by (quiet h (queued x p q)) = rw (p, q) (put_true m.waiting x y)
    by {n} (quiet h (dropped x p q)) = less n (rw q (put_false m.waiting x y))
    by {n} (quiet h (took x p q)) = less n (rw q (put_false m.waiting x y))
    by {n} (passed p q r) = less n (rw r (omega (arith, handed_on m.waiting y)))

-- ---- sums over the d localities above x

unfoldable pub sum_above : ℕ → ℕ → (ℕ → ℕ) → ℕ
sum_above zero x f = 0
sum_above (suc d) x f = f (x + suc d) + sum_above d x f

sum_add : (d x : ℕ) (f g : ℕ → ℕ) → sum_above d x (λ y. f y + g y) ≡ sum_above d x f + sum_above d x g
unfolding sum_above
sum_add zero x f g = refl
sum_add (suc d) x f g = omega (arith, sum_add d x f g)

sum_has : (d x h : ℕ) (f : ℕ → ℕ) → x < h → h ≤ x + d → f h ≤ sum_above d x f
unfolding sum_above
sum_has zero x h f l m = absurd (omega arith)
sum_has (suc d) x h f l m = by (split h (x + suc d) (omega arith)) (λ k. sum_has d x h f l k)
  where
    by : (h < x + suc d) ⊎ (h ≡ x + suc d) → (h ≤ x + d → f h ≤ sum_above d x f) → f h ≤ f (x + suc d) + sum_above d x f
    by (inl k) ih = omega (arith, ih (omega arith))
    by (inr k) ih = rw k (omega arith)

sum_most : (d x c : ℕ) (f : ℕ → ℕ) → ((y : ℕ) → x < y → y ≤ x + d → f y ≤ c) → sum_above d x f ≤ d * c
unfolding sum_above
sum_most zero x c f h = zero-le
sum_most (suc d) x c f h =
    omega (arith, h (x + suc d) (omega arith) (omega arith), suc-mul d c, sum_most d x c f (λ y l m. h y l (omega arith)))

-- ---- one event, as long as x waits

-- a handover that leaves x waiting serves one above x
hand_above : (x : ℕ) (m : Model) (e : Event) → x < 5 → m.waiting x ≡ true
    → one (hands_over m e) + one ((step m e).waiting x) ≤ sum_above (4 - x) x (λ y. one (serves_at y m e)) + 1
hand_above x m e l w = by (view m e)
  where
    serve : (o : Holder) → highest m.waiting ≡ o → 1 + one (without o m.waiting x) ≤ sum_above (4 - x) x (λ y. one (is_at y o)) + 1
    serve free q = absurd (clash (sym w ∙ highest_free 5 m.waiting q x l))
    serve (held h) q = at (eqb x h) refl (highest_held 5 m.waiting h q)
      where
        at : (t : Bool) → eqb x h ≡ t → Highest 5 m.waiting h → 1 + one (cond t false (m.waiting x)) ≤ sum_above (4 - x) x (λ y. one (eqb y h)) + 1
        at true p k = omega arith
        at false p k = omega (arith, one≤ (m.waiting x), above (dec_lt x h), one_is (eqb h h) (eq-eqb h h refl))
          where
            above : Dec (x < h) → one (eqb h h) ≤ sum_above (4 - x) x (λ y. one (eqb y h))
            above (yes n) = sum_has (4 - x) x h (λ y. one (eqb y h)) n (omega (arith, k.below))
            above (no n) = absurd (clash (sym w ∙ k.others x (lower (eqb-false x h p)) l))
              where
                lower : (x ≡ h → ⊥) → h < x
                lower f = omega arith

    by : {n : Model} {t : Bool} → View m e n t → one t + one (n.waiting x) ≤ sum_above (4 - x) x (λ y. one (t && is_at y (highest m.waiting))) + 1
    by {n} (quiet p q) = rw p (omega (arith, one≤ (n.waiting x)))
    by (passed p q r) = rw (p, r) (serve (highest m.waiting) refl)

put_on : (w : ℕ → Bool) (z x : ℕ) → w x ≡ true → put w z true x ≡ true
put_on w z x h = by (eqb x z)
  where
    by : (t : Bool) → cond t true (w x) ≡ true
    by true = refl
    by false = h

put_off : (w : ℕ → Bool) (z x : ℕ) → w x ≡ true → eqb x z ≡ false → put w z false x ≡ true
put_off w z x h e = rw e h

-- x goes on waiting or is active, unless it withdraws or all starts anew
pub lasts : (m : Model) (x : ℕ) (e : Event) → m.waiting x ≡ true → is_release x e ≡ false → is_restart e ≡ false
    → ((step m e).waiting x ≡ true) ⊎ ((step m e).active ≡ held x)
lasts m x e w y n = by (view m e)
  where
    by : {c : Model} {t : Bool} → View m e c t → (c.waiting x ≡ true) ⊎ (c.active ≡ held x)
    by (quiet h (same p)) = inl (rw p w)
    by (quiet h (wiped p q)) = absurd (clash (rw p at n))
    by (quiet h (queued z p q)) = inl (rw q (put_on m.waiting z x w))
    by (quiet h (dropped z p q)) = inl (rw q (put_off m.waiting z x w (rw p at y)))
    by {c} (quiet h (took z p q)) = leaves z p q
      where
        leaves : (h : ℕ) → c.active ≡ held h → c.waiting ≡ put m.waiting h false → (c.waiting x ≡ true) ⊎ (c.active ≡ held x)
        leaves h i j = at (eqb x h) refl
          where
            at : (v : Bool) → eqb x h ≡ v → (c.waiting x ≡ true) ⊎ (c.active ≡ held x)
            at true k = inr (i ∙ ap held (sym (eqb-true x h k)))
            at false k = inl (rw j (put_off m.waiting h x w k))
    by {c} (passed p q r) = next (highest m.waiting) q r
      where
        next : (o : Holder) → c.active ≡ o → c.waiting ≡ without o m.waiting → (c.waiting x ≡ true) ⊎ (c.active ≡ held x)
        next free i j = inl (rw j w)
        next (held h) i j = at (eqb x h) refl
          where
            at : (v : Bool) → eqb x h ≡ v → (c.waiting x ≡ true) ⊎ (c.active ≡ held x)
            at true k = inr (i ∙ ap held (sym (eqb-true x h k)))
            at false k = inl (rw j (put_off m.waiting h x w k))

-- ---- lists

-- the handovers to y in a list
unfoldable pub servings : ℕ → Model → List Event → ℕ
servings y m [] = 0
servings y m (e ∷ es) = one (serves_at y m e) + servings y (step m e) es

account_all : (y : ℕ) (m : Model) (es : List Event) → servings y m es + one ((run m es).waiting y) ≤ one (m.waiting y) + beginnings y m es
unfolding servings run beginnings
account_all y m [] = omega arith
account_all y m (e ∷ es) = omega (arith, account y m e, account_all y (step m e) es)

beginnings_requests : (y : ℕ) (m : Model) (es : List Event) → beginnings y m es ≤ tally (is_request y) es
unfolding beginnings tally
beginnings_requests y m [] = omega arith
beginnings_requests y m (e ∷ es) = omega (arith, by_request y m e, beginnings_requests y (step m e) es)

during_nil : (x : ℕ) (m : Model) → during x m [] ≡ []
unfolding during
during_nil x m = refl

during_on : (x : ℕ) (m : Model) (e : Event) (es : List Event) → m.waiting x ≡ true → during x m (e ∷ es) ≡ e ∷ during x (step m e) es
unfolding during
during_on x m e es w = rw w refl

during_off : (x : ℕ) (m : Model) (es : List Event) → m.waiting x ≡ false → during x m es ≡ []
unfolding during
during_off x m [] w = refl
during_off x m (e ∷ es) w = rw w refl

-- the wait is the front of the list
pub during_take : (x : ℕ) (m : Model) (es : List Event) → during x m es ≡ take (length (during x m es)) es
unfolding during
during_take x m [] = refl
during_take x m (e ∷ es) = by (m.waiting x) (during_take x (step m e) es)
  where
    by : (t : Bool) → during x (step m e) es ≡ take (length (during x (step m e) es)) es
        → while t e (during x (step m e) es) ≡ take (length (while t e (during x (step m e) es))) (e ∷ es)
    by true ih = ap (λ (l : List Event). e ∷ l) ih
    by false ih = refl

-- each handover of the wait but the one that serves x serves one above x
handed_above : (x : ℕ) (m : Model) (es : List Event) → x < 5 → m.waiting x ≡ true
    → handovers m (during x m es) + one ((run m (during x m es)).waiting x) ≤ sum_above (4 - x) x (λ y. servings y m (during x m es)) + 1
unfolding run handovers servings
handed_above x m [] l w = rw during_nil (omega (arith, one≤ (m.waiting x)))
handed_above x m (e ∷ es) l w = rw (during_on x m e es w) (by ((step m e).waiting x) refl (handed_above x (step m e) es l))
  where
    d : List Event
    d = during x (step m e) es

    by : (t : Bool) → (step m e).waiting x ≡ t
        → ((step m e).waiting x ≡ true → handovers (step m e) d + one ((run (step m e) d).waiting x) ≤ sum_above (4 - x) x (λ y. servings y (step m e) d) + 1)
        → one (hands_over m e) + handovers (step m e) d + one ((run (step m e) d).waiting x) ≤ sum_above (4 - x) x (λ y. one (serves_at y m e) + servings y (step m e) d) + 1
    by true q ih =
        omega (arith, hand_above x m e l w, one_is ((step m e).waiting x) q, ih q, sum_add (4 - x) x (λ y. one (serves_at y m e)) (λ y. servings y (step m e) d))
    by false q ih = rw (during_off x (step m e) es q) (rw q (omega (arith, one≤ (hands_over m e))))

-- the event after the first n makes x active, and ends its wait
record Ends (x : ℕ) (m : Model) (es : List Event) : Type 0 where
  n : ℕ
  waits : (j : ℕ) → j ≤ n → (run m (take j es)).waiting x ≡ true
  before : during x m (take n es) ≡ take n es
  whole : during x m es ≡ take (suc n) es
  active : (run m (take (suc n) es)).active ≡ held x

-- where the wait ends x is active, or the list is over
ended : (x : ℕ) (m : Model) (es : List Event) → m.waiting x ≡ true
    → tally (is_release x) (during x m es) ≡ 0 → tally is_restart (during x m es) ≡ 0
    → (((run m es).waiting x ≡ true) × (during x m es ≡ es)) ⊎ Ends x m es
unfolding run tally
ended x m [] w p q = inl (w, during_nil x m)
ended x m (e ∷ es) w p q = by ((step m e).waiting x) refl (rw (during_on x m e es w) at p) (rw (during_on x m e es w) at q) (ended x (step m e) es)
  where
    d : List Event
    d = during x (step m e) es

    off : (t : Bool) (n : ℕ) → one t + n ≡ 0 → (t ≡ false) × (n ≡ 0)
    off true n h = absurd (omega arith)
    off false n h = (refl, omega arith)

    more : (l : List Event) {l' : List Event} → during x (step m e) l ≡ l' → during x m (e ∷ l) ≡ e ∷ l'
    more l i = during_on x m e l w ∙ ap (λ (l : List Event). e ∷ l) i

    -- before the event and after it
    up_to : (n : ℕ) → ((j : ℕ) → j ≤ n → (run (step m e) (take j es)).waiting x ≡ true) → (j : ℕ) → j ≤ suc n → (run m (take j (e ∷ es))).waiting x ≡ true
    up_to n f zero l = w
    up_to n f (suc j) l = f j (omega arith)

    only : (j : ℕ) → j ≤ 0 → (run m (take j (e ∷ es))).waiting x ≡ true
    only zero l = w
    only (suc j) l = absurd (omega arith)

    by : (t : Bool) → (step m e).waiting x ≡ t → one (is_release x e) + tally (is_release x) d ≡ 0 → one (is_restart e) + tally is_restart d ≡ 0
        → ((step m e).waiting x ≡ true → tally (is_release x) d ≡ 0 → tally is_restart d ≡ 0 → (((run (step m e) es).waiting x ≡ true) × (d ≡ es)) ⊎ Ends x (step m e) es)
        → (((run (step m e) es).waiting x ≡ true) × (during x m (e ∷ es) ≡ (e ∷ es))) ⊎ Ends x m (e ∷ es)
    by true k p q ih = on (ih k (off (is_release x e) (tally (is_release x) d) p).1 (off (is_restart e) (tally is_restart d) q).1)
      where
        on : (((run (step m e) es).waiting x ≡ true) × (d ≡ es)) ⊎ Ends x (step m e) es → (((run (step m e) es).waiting x ≡ true) × (during x m (e ∷ es) ≡ (e ∷ es))) ⊎ Ends x m (e ∷ es)
        on (inl c) = inl (c.0, more es c.1)
        on (inr z) = inr (record { n = suc z.n; waits = up_to z.n z.waits; before = more (take z.n es) z.before; whole = more es z.whole; active = z.active })
    by false k p q ih =
        inr (record {
          n = 0;
          waits = only;
          before = during_nil x m;
          whole = more es (during_off x (step m e) es k);
          active = active (lasts m x e w (off (is_release x e) (tally (is_release x) d) p).0 (off (is_restart e) (tally is_restart d) q).0);
        })
      where
        active : ((step m e).waiting x ≡ true) ⊎ ((step m e).active ≡ held x) → (step m e).active ≡ held x
        active (inl c) = absurd (clash (sym c ∙ k))
        active (inr c) = c

-- a longer list has as many waits begun, or more
beginnings_take : (y n : ℕ) (m : Model) (es : List Event) → beginnings y m (take n es) ≤ beginnings y m (take (suc n) es)
unfolding beginnings
beginnings_take y zero m es = zero-le
beginnings_take y (suc n) m [] = omega arith
beginnings_take y (suc n) m (e ∷ es) = omega (arith, beginnings_take y n (step m e) es)

-- the handovers to those above x, each of which begins to wait at most k times
above_most : (x k : ℕ) (m : Model) (d : List Event) → x < 5 → ((y : ℕ) → x < y → y < 5 → beginnings y m d ≤ k)
    → sum_above (4 - x) x (λ y. servings y m d) ≤ (4 - x) * (k + 1)
above_most x k m d l r = sum_most (4 - x) x (k + 1) (λ y. servings y m d) each
  where
    each : (y : ℕ) → x < y → y ≤ x + (4 - x) → servings y m d ≤ k + 1
    each y n o = omega (arith, account_all y m d, r y n (omega arith), one≤ (m.waiting y))

-- as long as x waits at most (4 - x)(k + 1) handovers pass it by
pub passed_by : (x k : ℕ) (m : Model) (es : List Event) → x < 5 → m.waiting x ≡ true
    → ((y : ℕ) → x < y → y < 5 → beginnings y m (during x m es) ≤ k)
    → (run m (during x m es)).waiting x ≡ true → handovers m (during x m es) ≤ (4 - x) * (k + 1)
passed_by x k m es l w r z =
    omega (arith, above_most x k m (during x m es) l r, handed_above x m es l w, one_is ((run m (during x m es)).waiting x) z)

-- the bound, where only requests that begin a wait are counted
pub served_by_waits_lem : (x k : ℕ) (m : Model) → Served beginnings m x k
unfolding Served
served_by_waits_lem x k m l w es p q r n = by (ended x m es w p q)
  where
    over : (run m es).waiting x ≡ true → during x m es ≡ es → ⊥
    over z e =
        let h : handovers m (during x m es) ≤ (4 - x) * (k + 1) = passed_by x k m es l w r (rw e z) in
        omega (arith, ap (handovers m) e)

    by : (((run m es).waiting x ≡ true) × (during x m es ≡ es)) ⊎ Ends x m es
        → (n : ℕ) × ((j : ℕ) → j ≤ n → (run m (take j es)).waiting x ≡ true) × ((run m (take (suc n) es)).active ≡ held x) × (handovers m (take n es) < bound x k)
    by (inl c) = absurd (over c.0 c.1)
    by (inr z) = (z.n, z.waits, z.active, omega (arith, passed))
      where
        few : (y : ℕ) → x < y → y < 5 → beginnings y m (during x m (take z.n es)) ≤ k
        few y i j = rw z.before (omega (arith, beginnings_take y z.n m es, rw z.whole at (r y i j)))

        passed : handovers m (take z.n es) ≤ (4 - x) * (k + 1)
        passed = rw z.before at (passed_by x k m (take z.n es) l w few (rw z.before (z.waits z.n (omega arith))))

-- and where every write of a request counts, as document 01 has it
pub served : (x k : ℕ) (m : Model) → Served written m x k
unfolding Served
served x k m l w es p q r n = served_by_waits_lem x k m l w es p q (λ y i j. omega (arith, beginnings_requests y m (during x m es), r y i j)) n
