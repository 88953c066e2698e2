-- What the queues took in and gave out, with the events of one more step.
-- Assumes nothing.
use mathlib.Core.Path.{◌≡◌, refl, sym, ap, ◌∙◌}
use mathlib.Core.List.{List, [], ◌∷◌, ◌++◌, append_assoc, append-nil}
use Prim.Native.Nat.{ℕ}
use lib.Dec.{eqb}
use lib.ListN.{length, drop}
use lib.Seq.{drop-append_seam}
use borrow.Author.Tests.{eq-eqb, ne_eqb}
use Rattle.calls.specs.declared.types.Next.{Next}
use Rattle.calls.specs.declared.types.Next.TheVariants as next
use Rattle.machine.specs.Exec.{list_of, hypervisor_answer, guest_answer}
use Rattle.machine.specs.declared.types.Event.{Event}
use Rattle.queue.specs.Chain.{take_in, give_out, drop_first}
use Rattle.queue.proofs.Cases.{place}
use Rattle.queue.proofs.UpdateLaws.{update_same, update_other}
use Rattle.interleaving.specs.Histories.{port_if, taken_by, given_by, taken_in, given_out}

pub taken_append : (q : ℕ) (a b : List Event) → taken_in q (a ++ b) ≡ taken_in q a ++ taken_in q b
taken_append q [] b = refl
taken_append q (e ∷ a) b = rw (taken_append q a b) (sym (append_assoc (taken_by q e) (taken_in q a) (taken_in q b)))

pub given_append : (q : ℕ) (a b : List Event) → given_out q (a ++ b) ≡ given_out q a ++ given_out q b
given_append q [] b = refl
given_append q (e ∷ a) b = rw (given_append q a b) (sym (append_assoc (given_by q e) (given_out q a) (given_out q b)))

abbrev pub InOrder : List Event → (ℕ → List ℕ) → Type 0
InOrder h L = (q : ℕ) → taken_in q h ≡ given_out q h ++ L q

module _ (h es : List Event) (L : ℕ → List ℕ) (o : InOrder h L) where
  -- nothing is taken in or given out
  pub order_quiet : ((q : ℕ) → taken_in q es ≡ []) → ((q : ℕ) → given_out q es ≡ []) → InOrder (h ++ es) L
  order_quiet t g q = rw (taken_append q h es, given_append q h es, t q, g q, append-nil (taken_in q h), append-nil (given_out q h)) (o q)

  pub order_taken : (r p : ℕ) → ((q : ℕ) → taken_in q es ≡ port_if (eqb r q) p) → ((q : ℕ) → given_out q es ≡ []) → InOrder (h ++ es) (take_in L r p)
  order_taken r p t g q =
      rw (taken_append q h es, given_append q h es, t q, g q, append-nil (given_out q h)) (place
      (λ q. taken_in q h ++ port_if (eqb r q) p ≡ given_out q h ++ take_in L r p q) r q
      (rw (eq-eqb r r refl, update_same L r (L r ++ p ∷ []), o r) (append_assoc (given_out r h) (L r) (p ∷ [])))
      (λ n. rw (ne_eqb r q (λ e. n (sym e)), update_other L r (L r ++ p ∷ []) q n, append-nil (taken_in q h)) (o q)))

  pub order_given : (r p : ℕ) → L r ≡ p ∷ drop_first (L r) → ((q : ℕ) → taken_in q es ≡ []) → ((q : ℕ) → given_out q es ≡ port_if (eqb r q) p) → InOrder (h ++ es) (give_out L r)
  order_given r p e t g q =
      rw (taken_append q h es, given_append q h es, t q, g q, append-nil (taken_in q h)) (place
      (λ q. taken_in q h ≡ (given_out q h ++ port_if (eqb r q) p) ++ give_out L r q) r q
      (rw (eq-eqb r r refl, update_same L r (drop_first (L r)), append_assoc (given_out r h) (p ∷ []) (drop_first (L r))) (o r ∙ ap (λ l. given_out r h ++ l) e))
      (λ n. rw (ne_eqb r q (λ z. n (sym z)), update_other L r (drop_first (L r)) q n, append-nil (given_out q h)) (o q)))

-- where nothing was taken in since, what stood before is what was given out since, and then what stands
append_cancel : (a x y : List ℕ) → a ++ x ≡ a ++ y → x ≡ y
append_cancel a x y e = sym (drop-append_seam a x) ∙ ap (drop (length a)) e ∙ drop-append_seam a y

pub stood : (h es : List Event) (L M : ℕ → List ℕ) → InOrder h L → InOrder (h ++ es) M → ((q : ℕ) → taken_in q es ≡ []) → (q : ℕ) → L q ≡ given_out q es ++ M q
stood h es L M before after none q = append_cancel (given_out q h) (L q) (given_out q es ++ M q)
    (sym (before q) ∙ sym (append-nil (taken_in q h)) ∙ ap (λ l. taken_in q h ++ l) (sym (none q)) ∙ sym (taken_append q h es) ∙ after q
    ∙ ap (λ l. l ++ M q) (given_append q h es) ∙ append_assoc (given_out q h) (given_out q es) (M q))

-- a call's answer takes nothing in and gives nothing out
module _ (q : ℕ) where
  pub answer_taken : (x : Next) → taken_in q (list_of (hypervisor_answer x)) ≡ []
  answer_taken (next.Access a) = refl
  answer_taken (next.Answer a count) = refl

  pub answer_given : (x : Next) → given_out q (list_of (hypervisor_answer x)) ≡ []
  answer_given (next.Access a) = refl
  answer_given (next.Answer a count) = refl

  pub guest_answer_taken : (x : Next) → taken_in q (list_of (guest_answer x)) ≡ []
  guest_answer_taken (next.Access a) = refl
  guest_answer_taken (next.Answer a count) = refl

  pub guest_answer_given : (x : Next) → given_out q (list_of (guest_answer x)) ≡ []
  guest_answer_given (next.Access a) = refl
  guest_answer_given (next.Answer a count) = refl

-- so it may stand behind the events of its step
module _ (h es : List Event) (L : ℕ → List ℕ) (o : InOrder (h ++ es) L) (x : Next) where
  pub order_answer : InOrder (h ++ (es ++ list_of (hypervisor_answer x))) L
  order_answer = rw (← (append_assoc h es (list_of (hypervisor_answer x)))) (order_quiet (h ++ es) (list_of (hypervisor_answer x)) L o (λ q. answer_taken q x) (λ q. answer_given q x))

  pub order_guest_answer : InOrder (h ++ (es ++ list_of (guest_answer x))) L
  order_guest_answer = rw (← (append_assoc h es (list_of (guest_answer x)))) (order_quiet (h ++ es) (list_of (guest_answer x)) L o (λ q. guest_answer_taken q x) (λ q. guest_answer_given q x))
