-- A side whose records and requests are those of another in another form is bounded where the other is.
-- Assumes nothing.
use Prim.Native.Nat.{ℕ}
use mathlib.Core.Path.{◌≡◌, refl, sym, ap, ◌∙◌}
use mathlib.Core.List.{List, [], ◌∷◌, map}
use Rattle.calls.specs.declared.types.Access.{Access}
use Rattle.calls.specs.declared.types.Next.TheVariants as next
use Rattle.calls.specs.Claims.{Side, NamesDue, Counting, run_one, run}
use Rattle.claims.specs.Reach.{Bounded, BoundedFrom}

module _ {Record Request Other Asked : Type 0} (one : Side Record Request) (two : Side Other Asked) (words_of : Record → ℕ) (other_words : Other → ℕ) where
  -- what a record and a request of the one are to the other, for the records that fit
  pub record Simulates (Fits : Record → Type 0) (is : Record → Other) (asks : Request → Asked) : Type 0 where
    pub fits : (r : Record) → Fits r → (q : Request) → Fits (one.after r q)
    pub after : (r : Record) → Fits r → (q : Request) → is (one.after r q) ≡ two.after (is r) (asks q)
    pub gives : (r : Record) → Fits r → (q : Request) → one.gives r q ≡ two.gives (is r) (asks q)
    pub replies : (q : Request) → one.replies q ≡ two.replies (asks q)
    pub own : (r : Record) (q : Request) → one.own r q ≡ two.own (is r) (asks q)
    pub due : (r : Record) → Fits r → one.due r ≡ two.due (is r)
    pub under_way : (r : Record) → one.under_way r ≡ two.under_way (is r)
    pub count : (r : Record) → one.count r ≡ two.count (is r)
    pub words : (r : Record) → words_of r ≡ other_words (is r)

  module _ {Fits : Record → Type 0} {is : Record → Other} {asks : Request → Asked} (m : Simulates Fits is asks) where
    pub named_is_due : NamesDue two → (r : Record) (q : Request) (x : Access) → Fits r → one.gives r q ≡ next.Access x → one.due (one.after r q) ≡ next.Access x
    named_is_due names r q x f e = m.due (one.after r q) (m.fits r f q) ∙ (ap two.due (m.after r f q) ∙ names (is r) (asks q) x (sym (m.gives r f q) ∙ e))

    abbrev image : Counting Record → Counting Other
    image s = record { state = is s.state; named = s.named }

    one_step : (s : Counting Record) → Fits s.state → (q : Request) → image (run_one one s q) ≡ run_one two (image s) (asks q)
    one_step s f q = rw (m.after s.state f q, m.gives s.state f q, m.replies q, m.own s.state q)

    ran : (s : Counting Record) → Fits s.state → (qs : List Request) → Fits (run one s qs).state × (image (run one s qs) ≡ run two (image s) (map asks qs))
    ran s f [] = (f, refl)
    ran s f (q ∷ qs) =
        let next = ran (run_one one s q) (m.fits s.state f q) qs in
        (next.0, next.1 ∙ ap (λ (x : Counting Other). run two x (map asks qs)) (one_step s f q))

    bounded : (limit : ℕ) (s : Counting Record) → Fits s.state → Bounded two other_words limit (image s) → Bounded one words_of limit s
    bounded limit s f b = record {
      length = b.length;
      stored = λ u. rw (m.count s.state) (b.stored (sym (m.under_way s.state) ∙ u));
      due = λ x e. rw (m.words s.state) (b.due x (sym (m.due s.state f) ∙ e));
      names = λ q x e. rw (m.words (one.after s.state q), m.after s.state f q) (b.names (asks q) x (sym (m.gives s.state f q) ∙ e));
      count = λ q a count o e. b.count (asks q) a count (sym (m.own s.state q) ∙ o) (sym (m.gives s.state f q) ∙ e);
      ends = λ q a count o r e other. m.under_way (one.after s.state q) ∙ rw (m.after s.state f q) (b.ends (asks q) a count (sym (m.own s.state q) ∙ o) (sym (m.replies q) ∙ r) (sym (m.gives s.state f q) ∙ e) other);
    }

    pub bounded_from : (limit : ℕ) (fresh : Record) → Fits fresh → BoundedFrom two other_words limit (is fresh) → BoundedFrom one words_of limit fresh
    bounded_from limit fresh f b qs =
        let end = ran (record { state = fresh; named = 0 }) f qs in
        bounded limit (run one (record { state = fresh; named = 0 }) qs) end.0 (rw end.1 (b (map asks qs)))
