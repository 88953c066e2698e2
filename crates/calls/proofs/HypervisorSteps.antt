-- What every step of a reply to the hypervisor keeps to, by stage: its port, its count, its answer, and the tail that it
-- changes.
-- Assumes nothing.
use Prim.Native.Nat.{ℕ}
use mathlib.Core.Path.{◌≡◌, refl, sym, ap, ◌∙◌}
use mathlib.Core.Bool.{Bool, true, false, cond, not, true≢false, false≢true}
use mathlib.Core.List.{List}
use mathlib.Core.Logic.{◌⊎◌, inl, inr}
use lib.ListN.{set}
use lib.Dec.{eqb, leb}
use Rattle.word.specs.declared.Port.{Port}
use Rattle.word.specs.declared.Queue.{Queue}
use Rattle.word.specs.declared.Flag.TheVariants.{Pending, Masked, Linked}
use Rattle.word.specs.Word.{has, queue_at}
use Rattle.word.specs.Effect.{cas_taken}
use Rattle.word.specs.Ready.{is_ready}
use Rattle.word.specs.Entry.{last_queue, ever_linked, bound_entry, closed_entry, linked_entry, priority}
use Rattle.calls.specs.declared.types.Answer.{Answer}
use Rattle.calls.specs.declared.types.Answer.TheVariants.{Done, UpcallWanted, LinkAbandoned, StillLinked}
use Rattle.calls.specs.declared.types.Owner.{Owner}
use Rattle.calls.specs.declared.types.Owner.TheVariants as owner
use Rattle.calls.specs.declared.types.Stage.{Stage}
use Rattle.calls.specs.declared.types.Stage.TheVariants.{First, R2, R3, R4, SetBusy, ClearBusy, R5, R6}
use Rattle.calls.specs.declared.types.Call.{Call}
use Rattle.calls.specs.declared.hypervisor.stage.View.{View}
use Rattle.calls.specs.declared.hypervisor.stage.Move.{Move}
use Rattle.calls.specs.Answers.{code_of}
use Rattle.calls.specs.Records.{one_more, is_free}
use Rattle.calls.specs.Hypervisor.{goes_on, ends, ends_tailed, named, reply_r1, reply_u1, reply_bind, reply_close, reply_first_of, reply_first, stale_queue, after_r2, reply_r2, reply_r3, after_first_cas, after_later_cas, reply_r4, reply_set_busy, reply_clear_busy, reply_r5, reply_r6, staged_at, staged}
use Rattle.calls.specs.Claims.{is_refusal, tails_changed}
use Rattle.calls.proofs.Cases.{choose}

-- at stage s of the call c, on a port whose entry is e, a step comes to m
pub record Kept (s : Stage) (c : Call) (e : ℕ) (m : Move) : Type 0 where
  pub port : is_free m.call.owner ≡ false → m.call.port ≡ c.port
  pub going : is_free m.call.owner ≡ false → m.call.count ≡ one_more c.count
  pub ended : is_free m.call.owner ≡ true → m.count ≡ c.count
  pub refused : is_refusal m.answer ≡ true → (c.owner ≡ owner.Bind) × (m ≡ ends e StillLinked c.count)
  pub tail : (m.queue.0 ≡ 16) ⊎ ((tails : List ℕ) → set tails m.queue.0 m.tail ≡ tails_changed s c e tails)

module _ (s : Stage) (c : Call) (e : ℕ) where
  kept_ends : (e' : ℕ) (a : Answer) → is_refusal a ≡ false → Kept s c e (ends e' a c.count)
  unfolding is_free
  kept_ends e' a h = record { port = λ t. absurd (true≢false t); going = λ t. absurd (true≢false t); ended = λ t. refl; refused = λ t. absurd (true≢false (sym t ∙ h)); tail = inl refl }

  kept_tailed : (a : Answer) → is_refusal a ≡ false → ((tails : List ℕ) → set tails c.queue.0 c.port.0 ≡ tails_changed s c e tails) → Kept s c e (ends_tailed e c a)
  unfolding is_free
  kept_tailed a h t = record { port = λ f. absurd (true≢false f); going = λ f. absurd (true≢false f); ended = λ f. refl; refused = λ f. absurd (true≢false (sym f ∙ h)); tail = inr t }

  module _ (busy : is_free c.owner ≡ false) where
    kept_goes : (e' : ℕ) (c' : Call) (q : Queue) → c'.owner ≡ c.owner → c'.port ≡ c.port → c'.count ≡ one_more c.count →
        (q.0 ≡ 16) ⊎ ((tails : List ℕ) → set tails q.0 0 ≡ tails_changed s c e tails) →
        Kept s c e (record { queue = q; tail = 0; entry = e'; call = c'; answer = Done; count = 0 })
    unfolding code_of
    kept_goes e' c' q o p k t =
        record { port = λ f. p; going = λ f. k; ended = λ f. absurd (true≢false (sym f ∙ (ap is_free o ∙ busy))); refused = λ f. absurd (false≢true f); tail = t }

    kept_on : (c' : Call) → c'.owner ≡ c.owner → c'.port ≡ c.port → c'.count ≡ one_more c.count → Kept s c e (goes_on e c')
    kept_on c' o p k = kept_goes e c' (queue_at 16) o p k (inl refl)

module _ (c : Call) (e seen : ℕ) (busy : is_free c.owner ≡ false) where
  -- R1 and U1
  kept_link : (b b' : Bool) → Kept First c e (cond b (ends e Done c.count) (cond b' (ends e Done c.count) (goes_on e (named c R2 (queue_at 0)))))
  unfolding code_of
  kept_link b b' =
      choose (Kept First c e) b (kept_ends First c e e Done refl)
      (choose (Kept First c e) b' (kept_ends First c e e Done refl) (kept_on First c e busy _ refl refl refl))

  kept_first : (o : Owner) → c.owner ≡ o → Kept First c e (reply_first_of o c e seen)
  unfolding reply_r1 reply_u1 reply_bind reply_close code_of is_free
  kept_first owner.None h = absurd (true≢false (sym (ap is_free h) ∙ busy))
  kept_first owner.Bind h =
      choose (Kept First c e) (has Linked seen)
      (record { port = λ f. absurd (true≢false f); going = λ f. absurd (true≢false f); ended = λ f. refl; refused = λ f. (h, refl); tail = inl refl })
      (kept_ends First c e (bound_entry e) Done refl)
  kept_first owner.Close h = kept_ends First c e (closed_entry e) Done refl
  kept_first owner.Raise h = kept_link (has Masked seen) (has Linked seen)
  kept_first owner.Unmask h = kept_link (not (has Pending seen)) (has Linked seen)

  stale_place : (p : Port) (q : Queue) (former : ℕ) →
      ((stale_queue e p q former).0 ≡ 16) ⊎ ((tails : List ℕ) → set tails (stale_queue e p q former).0 0 ≡ set tails (last_queue e) 0)
  unfolding stale_queue
  stale_place p q former =
      choose Stale (not (ever_linked e)) (inl refl) (choose Stale (eqb (last_queue e) q.0) (inl refl) (choose Stale (eqb former p.0) (inr (λ tails. refl)) (inl refl)))
    where
      Stale : Queue → Type 0
      Stale k = (k.0 ≡ 16) ⊎ ((tails : List ℕ) → set tails k.0 0 ≡ set tails (last_queue e) 0)

  kept-R2 : (v : View) → Kept R2 c e (reply_r2 c e v seen)
  unfolding reply_r2 code_of after_r2
  kept-R2 v =
      choose (Kept R2 c e) (has Linked seen) (kept_ends R2 c e e Done refl)
      (kept_goes R2 c e busy (linked_entry e (priority e)) (after_r2 c q t) _ going.0 going.1 going.2 (stale_place c.port q _))
    where
      q : Queue
      q = queue_at (priority e)

      t : ℕ
      t = v.tail

      Goes : Call → Type 0
      Goes c' = (c'.owner ≡ c.owner) × (c'.port ≡ c.port) × (c'.count ≡ one_more c.count)

      going : Goes (after_r2 c q t)
      going = choose Goes (eqb t 0) (refl, refl, refl) (choose Goes (eqb t c.port.0) (refl, refl, refl) (refl, refl, refl))

  kept-R4 : Kept R4 c e (reply_r4 c e seen)
  unfolding reply_r4 after_first_cas after_later_cas code_of
  kept-R4 =
      choose (Kept R4 c e) (cas_taken seen c.word) (kept_tailed R4 c e Done refl (λ tails. refl))
      (choose (Kept R4 c e) (leb c.tries 1)
      (choose (Kept R4 c e) (not (has Linked seen)) (kept_on R4 c e busy _ refl refl refl) (kept_on R4 c e busy _ refl refl refl))
      (choose (Kept R4 c e) (not (has Linked seen)) (kept_on R4 c e busy _ refl refl refl)
      (choose (Kept R4 c e) (leb 5 c.tries) (kept_on R4 c e busy _ refl refl refl) (kept_on R4 c e busy _ refl refl refl))))

  kept_at : (s : Stage) (v : View) → Kept s c e (staged_at s c e v seen)
  unfolding reply_first reply_r3 reply_set_busy reply_clear_busy reply_r5 reply_r6 code_of is_free
  kept_at First v = kept_first c.owner refl
  kept_at R2 v = kept-R2 v
  kept_at R3 v = choose (Kept R3 c e) (not (has Linked seen)) (kept_on R3 c e busy _ refl refl refl) (kept_on R3 c e busy _ refl refl refl)
  kept_at R4 v = kept-R4
  kept_at SetBusy v = choose (Kept SetBusy c e) (not (has Linked seen)) (kept_on SetBusy c e busy _ refl refl refl) (kept_on SetBusy c e busy _ refl refl refl)
  kept_at ClearBusy v = choose (Kept ClearBusy c e) (has Linked c.word) (kept_tailed ClearBusy c e LinkAbandoned refl (λ tails. refl)) (kept_on ClearBusy c e busy _ refl refl refl)
  kept_at R5 v = record { port = λ f. refl; going = λ f. refl; ended = λ f. absurd (true≢false (sym f ∙ busy)); refused = λ f. absurd (false≢true f); tail = inr (λ tails. refl) }
  kept_at R6 v = choose (Kept R6 c e) (is_ready c.queue.0 seen) (kept_ends R6 c e e Done refl) (kept_ends R6 c e e UpcallWanted refl)

  pub kept : (v : View) → Kept c.stage c e (staged c e v seen)
  unfolding staged
  kept v = kept_at c.stage v
