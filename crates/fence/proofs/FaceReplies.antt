-- The face after a reply: a bind or a close under way ends, unless its port has no entry, and all else leaves it. n is the number of
-- link bits.
-- Assumes nothing.
use Prim.Native.Nat.{ℕ}
use mathlib.Core.Path.{◌≡◌, refl, sym, ap, ◌∙◌, subst}
use mathlib.Core.Bool.{Bool, true, false, cond, not}
use mathlib.Core.List.{List}
use mathlib.Core.Logic.{◌⊎◌, inl, inr, ⊎_elim}
use lib.ListN.{length, get_or, length-map}
use lib.Seq.{map-set_same, set-get_or}
use lib.Dec.{eqb, leb, ltb}
use Rattle.word.specs.declared.Queue.{Queue}
use Rattle.word.specs.declared.Flag.TheVariants.{Pending, Masked, Linked}
use Rattle.word.specs.Word.{has, queue_at}
use Rattle.word.specs.Effect.{cas_taken}
use Rattle.word.specs.Ready.{is_ready}
use Rattle.word.specs.Entry.{bound, bound_entry, closed_entry, priority}
use Rattle.word.proofs.EntryLaws.{bound-bound_entry, bound-closed_entry, bound-linked_entry}
use Rattle.calls.specs.declared.types.Answer.TheVariants.{Done, StillLinked, NoEntry, NoCall}
use Rattle.calls.specs.declared.types.Owner.{Owner}
use Rattle.calls.specs.declared.types.Owner.TheVariants as owner
use Rattle.calls.specs.declared.types.Stage.{Stage}
use Rattle.calls.specs.declared.types.Stage.TheVariants.{First, R2, R3, R4, SetBusy, ClearBusy, R5, R6}
use Rattle.calls.specs.declared.types.Call.{Call}
use Rattle.calls.specs.declared.types.Domain.{Domain}
use Rattle.calls.specs.declared.hypervisor.stage.Move.{Move}
use Rattle.calls.specs.declared.hypervisor.stage.View.{View}
use Rattle.calls.specs.Answers.{code_of}
use Rattle.calls.specs.Records.{entry_at, is_free, closing_by, closing_port}
use Rattle.calls.specs.Hypervisor.{Turn, turn, answered, next_of, goes_on, ends, named, reply_r1, reply_u1, reply_bind, reply_close, reply_first_of, reply_first, after_r2, reply_r2, reply_r3, after_first_cas, after_later_cas, reply_r4, reply_set_busy, reply_clear_busy, reply_r5, reply_r6, staged_at, staged, view_of, moved, carried_out, reply_found, reply_of}
use Rattle.calls.proofs.Cases.{choose, by_test}
use Rattle.machine.specs.declared.types.Event.TheVariants.{HypervisorAnswer}
use Rattle.fence.specs.System.{falls_by}
use Rattle.fence.specs.Fence.{is_seven}
use Rattle.interleaving.specs.Lengths.{is_first}
use Rattle.fence.proofs.FaceOf.{UnderWay, quiet, binds, closes, first_by, under_way_of, face_of, face_after, answer_of, with_under_way, replied, reply_falls}
use Rattle.fence.proofs.FaceStarts.{bounds_set, free_quiet, none_falls}

-- ---- what the word seen makes of a call

-- of the call u, on a port whose entry is e
abbrev Fits : ℕ → UnderWay → Move → Type 0
Fits e quiet m = (under_way_of m.call ≡ quiet) × (bound m.entry ≡ bound e)
Fits e (binds p) m = (count : ℕ) × ((m ≡ ends e StillLinked count) ⊎ (m ≡ ends (bound_entry e) Done count))
Fits e (closes p) m = (count : ℕ) × (m ≡ ends (closed_entry e) Done count)

module _ (c : Call) (e seen : ℕ) where
  -- R1 and U1
  link_fits : (b b' : Bool) →
      Fits e quiet (cond b (ends e Done c.count) (cond b' (ends e Done c.count) (goes_on e (named c R2 (queue_at 0)))))
  link_fits b b' = choose (Fits e quiet) b (refl, refl) (choose (Fits e quiet) b' (refl, refl) (refl, refl))

  first_fits : (o : Owner) (p : ℕ) → Fits e (first_by o p) (reply_first_of o c e seen)
  unfolding reply_r1 reply_u1 reply_bind reply_close
  first_fits owner.None p = (refl, refl)
  first_fits owner.Bind p = (c.count, choose P (has Linked seen) (inl refl) (inr refl))
    where
      P : Move → Type 0
      P m = (m ≡ ends e StillLinked c.count) ⊎ (m ≡ ends (bound_entry e) Done c.count)
  first_fits owner.Close p = (c.count, refl)
  first_fits owner.Raise p = link_fits (has Masked seen) (has Linked seen)
  first_fits owner.Unmask p = link_fits (not (has Pending seen)) (has Linked seen)

  r4_fits : Fits e quiet (reply_r4 c e seen)
  unfolding reply_r4 after_first_cas after_later_cas
  r4_fits =
      choose (Fits e quiet) (cas_taken seen c.word) (refl, refl)
      (choose (Fits e quiet) (leb c.tries 1) (choose (Fits e quiet) (not (has Linked seen)) (refl, refl) (refl, refl))
      (choose (Fits e quiet) (not (has Linked seen)) (refl, refl) (choose (Fits e quiet) (leb 5 c.tries) (refl, refl) (refl, refl))))

  after_quiet : (q : Queue) (tail : ℕ) → under_way_of (after_r2 c q tail) ≡ quiet
  unfolding after_r2
  after_quiet q tail = choose P (eqb tail 0) refl (choose P (eqb tail c.port.0) refl refl)
    where
      P : Call → Type 0
      P x = under_way_of x ≡ quiet

  fits : (s : Stage) (v : View) → Fits e (cond (is_first s) (first_by c.owner c.port.0) quiet) (staged_at s c e v seen)
  unfolding reply_first reply_r2 reply_r3 reply_set_busy reply_clear_busy reply_r5 reply_r6
  fits First v = first_fits c.owner c.port.0
  fits R2 v = choose (Fits e quiet) (has Linked seen) (refl, refl) (after_quiet _ v.tail, bound-linked_entry e (priority e))
  fits R3 v = choose (Fits e quiet) (not (has Linked seen)) (refl, refl) (refl, refl)
  fits R4 v = r4_fits
  fits SetBusy v = choose (Fits e quiet) (not (has Linked seen)) (refl, refl) (refl, refl)
  fits ClearBusy v = choose (Fits e quiet) (has Linked c.word) (refl, refl) (refl, refl)
  fits R5 v = (refl, refl)
  fits R6 v = choose (Fits e quiet) (is_ready c.queue.0 seen) (refl, refl) (refl, refl)

-- ---- the port of a bind or a close under way

abbrev About : ℕ → UnderWay → Type 0
About p quiet = Unit {0}
About p (binds q) = q ≡ p
About p (closes q) = q ≡ p

about_first : (o : Owner) (p : ℕ) → About p (first_by o p)
about_first owner.None p = tt
about_first owner.Bind p = refl
about_first owner.Close p = refl
about_first owner.Raise p = tt
about_first owner.Unmask p = tt

abbrev closing : UnderWay → ℕ
closing quiet = 0
closing (binds p) = 0
closing (closes p) = p

closing_by_lem : (o : Owner) (s : Stage) (p : ℕ) → closing_by o s p ≡ closing (cond (is_first s) (first_by o p) quiet)
closing_by_lem owner.None s p = choose (λ u. 0 ≡ closing u) (is_first s) refl refl
closing_by_lem owner.Bind s p = choose (λ u. 0 ≡ closing u) (is_first s) refl refl
closing_by_lem owner.Close First p = refl
closing_by_lem owner.Close R2 p = refl
closing_by_lem owner.Close R3 p = refl
closing_by_lem owner.Close R4 p = refl
closing_by_lem owner.Close SetBusy p = refl
closing_by_lem owner.Close ClearBusy p = refl
closing_by_lem owner.Close R5 p = refl
closing_by_lem owner.Close R6 p = refl
closing_by_lem owner.Raise s p = choose (λ u. 0 ≡ closing u) (is_first s) refl refl
closing_by_lem owner.Unmask s p = choose (λ u. 0 ≡ closing u) (is_first s) refl refl

-- ---- the reply

module _ (n : ℕ) (d : Domain) (ledger : List ℕ) where
  -- a reply to the call u comes to t, in which the close of port p may fall
  pub record Answers (u : UnderWay) (p : ℕ) (t : Turn) : Type 0 where
    pub face : face_after t ≡ replied u (face_of d ledger) (is_seven (answer_of t))
    pub falls : falls_by (answer_of t) p ≡ reply_falls u (face_of d ledger)

  abbrev port : ℕ
  port = d.call.port.0

  abbrev entry : ℕ
  entry = get_or ledger port 0

  -- 14
  missing : (u : UnderWay) → About port u → ltb port (length ledger) ≡ false → Answers u (closing u) (turn (answered d NoEntry) ledger)
  unfolding code_of
  missing quiet a l = record { face = refl; falls = refl }
  missing (binds p) a l = record { face = rw (length-map ledger bound, a, l); falls = refl }
  missing (closes p) a l = record { face = rw (length-map ledger bound, a, l); falls = rw (length-map ledger bound, a, l) }

  stays : (m : Move) → bound m.entry ≡ bound entry → under_way_of d.call ≡ quiet → under_way_of m.call ≡ quiet →
      face_after (carried_out n d ledger m) ≡ face_of d ledger
  unfolding moved
  stays m b h k = rw (map-set_same bound ledger port m.entry 0 b) (ap (with_under_way (face_of d ledger)) (k ∙ sym h))

  module _ (p count : ℕ) (a : p ≡ port) (l : ltb port (length ledger) ≡ true) where
    still_linked : Answers (binds p) 0 (carried_out n d ledger (ends entry StillLinked count))
    unfolding moved next_of is_free code_of
    still_linked = record { face = rw (length-map ledger bound, a, l, set-get_or ledger port 0); falls = refl }

    now_bound : Answers (binds p) 0 (carried_out n d ledger (ends (bound_entry entry) Done count))
    unfolding moved next_of is_free code_of
    now_bound = record { face = rw (length-map ledger bound, a, l) (simp (bounds_set, bound-bound_entry)); falls = refl }

    now_closed : Answers (closes p) p (carried_out n d ledger (ends (closed_entry entry) Done count))
    unfolding moved next_of is_free code_of
    now_closed = record {
      face = rw (length-map ledger bound, a, l) (simp (bounds_set, bound-closed_entry));
      falls = rw (length-map ledger bound, a, l);
    }

  carried : (u : UnderWay) (m : Move) → under_way_of d.call ≡ u → About port u → ltb port (length ledger) ≡ true → Fits entry u m →
      Answers u (closing u) (carried_out n d ledger m)
  carried quiet m h a l f = record { face = stays m f.1 h f.0; falls = none_falls (answer_of (carried_out n d ledger m)) }
  carried (binds p) m h a l f =
      ⊎_elim (λ k. subst (λ x. Answers (binds p) 0 (carried_out n d ledger x)) (sym k) (still_linked p f.0 a l))
      (λ k. subst (λ x. Answers (binds p) 0 (carried_out n d ledger x)) (sym k) (now_bound p f.0 a l)) f.1
  carried (closes p) m h a l f = subst (λ x. Answers (closes p) p (carried_out n d ledger x)) (sym f.1) (now_closed p f.0 a l)

  abbrev call : UnderWay
  call = under_way_of d.call

  reply_by : (seen : ℕ) → Answers call (closing call) (reply_of n d ledger seen)
  unfolding reply_of entry_at staged
  reply_by seen =
      by_test (Answers call (closing call)) (is_free d.call.owner)
      (λ h. subst (λ u. Answers u (closing u) (turn (answered d NoCall) ledger)) (sym (free_quiet d.call h))
      (record { face = refl; falls = none_falls (HypervisorAnswer NoCall 0) }))
      (λ h. by_test (λ found. Answers call (closing call) (reply_found n d ledger seen found)) (ltb port (length ledger))
      (λ l. carried call _ refl about l (fits d.call entry seen d.call.stage (view_of d entry)))
      (missing call about))
    where
      about : About port call
      about = choose (About port) (is_first d.call.stage) (about_first d.call.owner port) tt

  pub reply_answers : (seen : ℕ) → Answers call (closing_port d.call) (reply_of n d ledger seen)
  reply_answers seen =
      subst (λ (p : ℕ). Answers call p (reply_of n d ledger seen)) (sym (closing_by_lem d.call.owner d.call.stage port)) (reply_by seen)
