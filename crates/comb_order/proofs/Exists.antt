-- There is an order or a loop: what the search finds, over plain lists.
use Rattle.std.proofs.Common.{◌≡◌, ◌≢◌, ℕ, zero, suc, ◌+◌, ◌^◌, ◌<◌, ◌≤◌, ◌⊎◌, inl, inr, Bool, true, false, List, [], ◌∷◌, ◌++◌, length, get_or, refl, sym, ap, ◌∙◌, subst, arith, get_or-set_other, get_or-set_same, length-set}
use Rattle.std.specs.Prelude.{Option, None, Some, slice_get, slice_index, slice_index_or, slice_set, IsSomeAnd, sum, replicate}
use Rattle.std.proofs.lemmas.Bool.{cases_lt, cases_eq}
use Rattle.std.proofs.lemmas.List.{length_push, length-replicate, get_or-replicate, get_or_append_left, get_or_push, get_or_past}
use Rattle.netlist.specs.Design.{Flat}
use Rattle.netlist.specs.Graph.{ReadsPart, reads}
use Rattle.netlist.specs.Order.{IsOrder, IsLoop}
use Rattle.comb_order.specs.First.{IsFirst, AreFirst, first_of}
use Rattle.comb_order.specs.Distance.{AreDistances, AreSupported, ComesBack, one_read_more}
use Rattle.comb_order.specs.Labels.{AreRising, RiseBelow, Raised}
use Rattle.comb_order.specs.Laws.{ExistenceLaw}
use Rattle.comb_order.specs.Round.{IsRound, IsLeast, next_of}
use Rattle.comb_order.specs.declared.distance.TheConstants.{NEVER}
use Rattle.comb_order.proofs.Distances.{Has, has_at, are_distances, read_there, settled_part, still_supported, sum_less}
use Rattle.comb_order.proofs.First.{first_alone, first_of_both, first_same}
use Rattle.comb_order.proofs.Rises.{back_cases, least_more, loop_is, rise_more, rising}
use Rattle.comb_order.proofs.Rounds.{Stands, stands_first, stands_last, stands_more}

-- ---- a list of n elements by number

abbrev tabulate : {X : Type 0} → ℕ → (ℕ → X) → List X
tabulate zero g = []
tabulate (suc n) g = tabulate n g ++ g n ∷ []

tab_length : {X : Type 0} (n : ℕ) (g : ℕ → X) → length (tabulate n g) ≡ n
tab_length zero g = refl
tab_length (suc n) g =
    let one : n + 1 ≡ suc n = omega arith in
    length_push (tabulate n g) (g n) ∙ ap (λ (k : ℕ). k + 1) (tab_length n g) ∙ one

tab_at : {X : Type 0} (n : ℕ) (g : ℕ → X) (k : ℕ) (d : X) → k < n → get_or (tabulate n g) k d ≡ g k
tab_at zero g k d l = absurd (omega arith)
tab_at (suc n) g k d l = elim (cases_lt k n) [
  | inl less ↦ get_or_append_left (tabulate n g) (g n ∷ []) d k (omega (arith, less, tab_length n g))
      ∙ tab_at n g k d less
  | inr last ↦ (let e : n ≡ k = omega (arith, l, last) in
      get_or_push (tabulate n g) (g n) d k (tab_length n g ∙ e) ∙ ap g e)
]

-- ---- what each part reads first

some_decided : {X : Type 0} (o : Option X) (P : X → Type 0) → ((x : X) → P x ⊎ (P x → ⊥))
    → IsSomeAnd o P ⊎ (IsSomeAnd o P → ⊥)
some_decided None P d = inr (λ h. h)
some_decided (Some x) P d = d x

bool_decided : (b : Bool) → (b ≡ true) ⊎ (b ≡ true → ⊥)
bool_decided true = inl refl
bool_decided false = inr (λ h. cc)

reads_decided : (f : Flat) (p q : ℕ) → ReadsPart f p q ⊎ (ReadsPart f p q → ⊥)
reads_decided f p q =
    some_decided (slice_get f.driven p) (λ x. IsSomeAnd (slice_get f.driven q) (λ y. reads f x.node y ≡ true))
    (λ x. some_decided (slice_get f.driven q) (λ y. reads f x.node y ≡ true) (λ y. bool_decided (reads f x.node y)))

first_below : (f : Flat) (ranks : List ℕ) (p n : ℕ) → (b : Option ℕ) × IsFirst ranks (λ q. ReadsPart f p q × (q < n)) b
first_below f ranks p zero = (None, λ q h. omega (arith, h.1))
first_below f ranks p (suc n) =
    let old = first_below f ranks p n in
    elim (reads_decided f p n) [
      | inl yes' ↦ (
        first_of ranks old.0 (Some n),
        first_same ranks (λ q. (ReadsPart f p q × (q < n)) ⊎ (q ≡ n)) (λ q. ReadsPart f p q × (q < suc n))
            (first_of ranks old.0 (Some n))
            (λ q e. elim e [
              | inl h ↦ (h.0, omega (arith, h.1))
              | inr same ↦ (subst (λ k. ReadsPart f p k) (sym same) yes', omega (arith, same))
            ])
            (λ q h. elim (cases_lt q n) [ inl less ↦ inl (h.0, less) | inr last ↦ inr (omega (arith, last, h.1)) ])
            (first_of_both ranks (λ q. ReadsPart f p q × (q < n)) (λ q. q ≡ n) old.0 (Some n) old.1 (first_alone ranks n)),
      )
      | inr no' ↦ (
        old.0,
        first_same ranks (λ q. ReadsPart f p q × (q < n)) (λ q. ReadsPart f p q × (q < suc n)) old.0
            (λ q h. (h.0, omega (arith, h.1)))
            (λ q h. elim (cases_lt q n) [
              | inl less ↦ (h.0, less)
              | inr last ↦ (let e : q ≡ n = omega (arith, last, h.1) in
                  absurd (no' (subst (λ k. ReadsPart f p k) e h.0)))
            ]) old.1,
      )
    ]

first_found : (f : Flat) (ranks : List ℕ) (p : ℕ) → (b : Option ℕ) × IsFirst ranks (ReadsPart f p) b
first_found f ranks p =
    let b = first_below f ranks p (length f.driven) in (
      b.0,
      first_same ranks (λ q. ReadsPart f p q × (q < length f.driven)) (ReadsPart f p) b.0 (λ q h. h.0)
          (λ q h. (h, read_there f p q h)) b.1,
    )

all_firsts : (f : Flat) (ranks : List ℕ) → (firsts : List (Option ℕ)) × AreFirst f ranks firsts
all_firsts f ranks =
    let g : ℕ → Option ℕ = λ p. (first_found f ranks p).0 in
    let firsts : List (Option ℕ) = tabulate (length f.driven) g in
    let are : AreFirst f ranks firsts = record {
      count = tab_length (length f.driven) g;
      each = λ p l. subst (λ b. IsFirst ranks (ReadsPart f p) b) (sym (tab_at (length f.driven) g p None l))
          (first_found f ranks p).1;
    } in (firsts, are)

-- ---- distances

abbrev Shorter : List ℕ → List (Option ℕ) → ℕ → ℕ → Type 0
Shorter ranks firsts to n = (p : ℕ) × (p < n) × (p ≢ to)
    × (one_read_more ranks (slice_index_or firsts p None) < slice_index ranks p)

abbrev NoneShorter : List ℕ → List (Option ℕ) → ℕ → ℕ → Type 0
NoneShorter ranks firsts to n = (p : ℕ) → p < n → p ≢ to
    → slice_index ranks p ≤ one_read_more ranks (slice_index_or firsts p None)

look : (ranks : List ℕ) (firsts : List (Option ℕ)) (to n : ℕ) → Shorter ranks firsts to n ⊎ NoneShorter ranks firsts to n
look ranks firsts to zero = inr (λ p l other. absurd (omega (arith, l)))
look ranks firsts to (suc n) = elim (look ranks firsts to n) [
  | inl s ↦ inl (s.0, omega (arith, s.1), s.2, s.3)
  | inr none ↦ elim (cases_eq n to) [
    | inl same ↦ inr (λ p l other. elim (cases_lt p n) [
      | inl less ↦ none p less other
      | inr last ↦ (let e : p ≡ n = omega (arith, l, last) in absurd (other (e ∙ same)))
    ])
    | inr apart ↦ elim (cases_lt (one_read_more ranks (slice_index_or firsts n None)) (slice_index ranks n)) [
      | inl found ↦ inl (n, omega arith, apart, found)
      | inr far ↦ inr (λ p l other. elim (cases_lt p n) [
        | inl less ↦ none p less other
        | inr last ↦ (let e : n ≡ p = omega (arith, l, last) in
            subst (λ k. slice_index ranks k ≤ one_read_more ranks (slice_index_or firsts k None)) e far)
      ])
    ]
  ]
]

settle : (b : ℕ) (f : Flat) (to : ℕ) → length f.driven < 2 ^ 32 → (ranks : List ℕ) → sum ranks < b
    → AreSupported f to ranks → (r : List ℕ) × AreDistances f to r
settle zero f to few ranks l s = absurd (omega (arith, l))
settle (suc b) f to few ranks l s =
    let firsts : (v : List (Option ℕ)) × AreFirst f ranks v = all_firsts f ranks in
    elim (look ranks firsts.0 to (length f.driven)) [
      | inl found ↦
          let p : ℕ = found.0 in
          let through : ℕ = one_read_more ranks (slice_index_or firsts.0 p None) in
          let less = sum_less ranks p through (omega (arith, found.1, s.count)) found.3 in
          settle b f to few (slice_set ranks p through) (omega (arith, l, less))
          (still_supported f to ranks ranks p through (slice_index_or firsts.0 p None) found.1 found.2 refl found.3
          (firsts.1.each p found.1) s)
      | inr none ↦ (
        ranks,
        are_distances f to ranks few s (λ p q there other h.
            settled_part f ranks p q (slice_index_or firsts.0 p None) (none p there other) (firsts.1.each p there) h),
      )
    ]

all_distances : (f : Flat) (to : ℕ) → to < length f.driven → length f.driven < 2 ^ 32
    → (r : List ℕ) × AreDistances f to r
all_distances f to l few =
    let m : ℕ = length f.driven in
    let far : List ℕ = replicate m NEVER in
    let ranks : List ℕ = slice_set far to 0 in
    let long : length far ≡ m = length-replicate m NEVER in
    let supported : AreSupported f to ranks = record {
      count = length-set far to 0 ∙ long;
      start = get_or-set_same far to 0 0 (omega (arith, l, long));
      each = λ p there other low.
          let is : slice_index ranks p ≡ NEVER = get_or-set_other far to p 0 0 other ∙ get_or-replicate m p NEVER 0 there in
          absurd (omega (arith, is, low));
    } in settle (suc (sum ranks)) f to few ranks (omega arith) supported

-- ---- the way round

go_round : (left : ℕ) (f : Flat) (start : ℕ) (ranks : List ℕ) (firsts : List (Option ℕ)) (all step : ℕ)
    (parts : List ℕ) (next : ℕ) → AreDistances f start ranks → AreFirst f ranks firsts → step + left ≡ all
    → Stands f start ranks all step parts next → (v : List ℕ) × IsRound f start v
go_round zero f start ranks firsts all step parts next d first e s =
    (parts, stands_last f start ranks all step parts next d (omega (arith, e)) s)
go_round (suc left) f start ranks firsts all step parts next d first e s =
    go_round left f start ranks firsts all (step + 1) (parts ++ next ∷ []) (next_of firsts next) d first
    (omega (arith, e)) (stands_more f start ranks firsts all step parts next d first (omega (arith, e)) s)

-- ---- labels

label_of : (ranks : List ℕ) (q : Option ℕ) → ComesBack ranks q ⊎ (ComesBack ranks q → ⊥) → ℕ → ℕ
label_of ranks q (inl back) n = n
label_of ranks q (inr never) n = n + 1

label_raised : (ranks : List ℕ) (q : Option ℕ) (c : ComesBack ranks q ⊎ (ComesBack ranks q → ⊥)) (n : ℕ)
    → Raised ranks q n (label_of ranks q c n)
unfolding label_of
label_raised ranks q (inl back) n = (λ b. refl, λ never. absurd (never back))
label_raised ranks q (inr never) n = (λ b. absurd (never b), λ h. refl)

-- ---- parts by labels

-- higher labels stand first
abbrev Falls : List ℕ → List ℕ → Type 0
Falls labels [] = Unit {0}
Falls labels (k ∷ ks) = ((x : ℕ) → Has x ks → slice_index labels x ≤ slice_index labels k) × Falls labels ks

record Inserted (labels : List ℕ) (n : ℕ) (ks : List ℕ) : Type 0 where
  list : List ℕ
  count : length list ≡ suc (length ks)
  old : (x : ℕ) → Has x ks → Has x list
  new : Has n list
  only : (x : ℕ) → Has x list → (x ≡ n) ⊎ Has x ks
  falls : Falls labels list

insert : (labels : List ℕ) (n : ℕ) (ks : List ℕ) → Falls labels ks → Inserted labels n ks
insert labels n [] f = record {
  list = n ∷ [];
  count = refl;
  old = λ x h. absurd h;
  new = inl refl;
  only = λ x h. elim h [ inl e ↦ inl e | inr g ↦ absurd g ];
  falls = (λ x h. absurd h, tt);
}
insert labels n (k ∷ ks) f = elim (cases_lt (slice_index labels k) (slice_index labels n)) [
  | inl less ↦ record {
    list = n ∷ k ∷ ks;
    count = refl;
    old = λ x h. inr h;
    new = inl refl;
    only = λ x h. elim h [ inl e ↦ inl e | inr g ↦ inr g ];
    falls = (
      λ x h. elim h [
        | inl e ↦ (let a = ap (slice_index labels) e in omega (arith, a, less))
        | inr g ↦ (let a = f.0 x g in omega (arith, a, less))
      ],
      f,
    );
  }
  | inr not_less ↦ (let r = insert labels n ks f.1 in record {
    list = k ∷ r.list;
    count = ap suc r.count;
    old = λ x h. elim h [ inl e ↦ inl e | inr g ↦ inr (r.old x g) ];
    new = inr r.new;
    only = λ x h. elim h [
      | inl e ↦ inr (inl e)
      | inr g ↦ elim (r.only x g) [ inl e ↦ inl e | inr y ↦ inr (inr y) ]
    ];
    falls = (
      λ x h. elim (r.only x h) [
        | inl e ↦ (let a = ap (slice_index labels) e in omega (arith, a, not_less))
        | inr g ↦ f.0 x g
      ],
      r.falls,
    );
  })
]

record Listed (labels : List ℕ) (n : ℕ) : Type 0 where
  list : List ℕ
  count : length list ≡ n
  each : (p : ℕ) → p < n → Has p list
  falls : Falls labels list

listed : (labels : List ℕ) (n : ℕ) → Listed labels n
listed labels zero = record { list = []; count = refl; each = λ p l. absurd (omega (arith, l)); falls = tt }
listed labels (suc n) =
    let r = listed labels n in
    let i = insert labels n r.list r.falls in
    record {
      list = i.list;
      count = i.count ∙ ap suc r.count;
      each = λ p l. elim (cases_lt p n) [
        | inl less ↦ i.old p (r.each p less)
        | inr last ↦ (let e : n ≡ p = omega (arith, l, last) in subst (λ k. Has k i.list) e i.new)
      ];
      falls = i.falls;
    }

place_of : (x : ℕ) (xs : List ℕ) → Has x xs → (i : ℕ) × (i < length xs) × (slice_index xs i ≡ x)
place_of x [] h = absurd h
place_of x (y ∷ ys) h = elim h [
  | inl e ↦ (0, omega arith, sym e)
  | inr g ↦ (let p = place_of x ys g in (suc p.0, omega (arith, p.1), p.2))
]

falls_at : (labels xs : List ℕ) → Falls labels xs → (i j : ℕ) → i ≤ j → j < length xs
    → slice_index labels (slice_index xs j) ≤ slice_index labels (slice_index xs i)
falls_at labels [] f i j l w = absurd (omega (arith, w))
falls_at labels (x ∷ xs) f zero zero l w = omega arith
falls_at labels (x ∷ xs) f zero (suc j) l w = f.0 (slice_index xs j) (has_at xs j (omega (arith, w)))
falls_at labels (x ∷ xs) f (suc i) zero l w = absurd (omega (arith, l))
falls_at labels (x ∷ xs) f (suc i) (suc j) l w = falls_at labels xs f.1 i j (omega (arith, l)) (omega (arith, w))

order_by : (f : Flat) (labels : List ℕ) → AreRising f labels → (order : List ℕ) × IsOrder f order
order_by f labels rise =
    let r = listed labels (length f.driven) in
    let is : IsOrder f r.list = record {
      count = r.count;
      each = λ p l. place_of p r.list (r.each p l);
      after = λ i j a b h. elim (cases_lt j i) [
        | inl before ↦ before
        | inr not_before ↦
            let up = rise.each (slice_index r.list i) (slice_index r.list j) h in
            let down = falls_at labels r.list r.falls i j not_before b in absurd (omega (arith, up, down))
      ];
    } in (r.list, is)

-- ---- part by part

tried : (left n : ℕ) (f : Flat) → length f.driven < 2 ^ 32 → (labels : List ℕ) → n + left ≡ length f.driven
    → RiseBelow f n labels → IsLeast f n → ((order : List ℕ) × IsOrder f order) ⊎ ((parts : List ℕ) × IsLoop f parts)
tried zero n f few labels e r least =
    let all : n ≡ length f.driven = omega (arith, e) in
    inl (order_by f labels (rising f labels (subst (λ k. RiseBelow f k labels) all r)))
tried (suc left) n f few labels e r least =
    let there : n < length f.driven = omega (arith, e) in
    let ranks = all_distances f n there few in
    let firsts = all_firsts f ranks.0 in
    let q : Option ℕ = slice_index_or firsts.0 n None in
    elim (back_cases ranks.0 q) [
      | inl back ↦
          let next : ℕ = next_of firsts.0 n in
          let all : ℕ = slice_index ranks.0 next in
          let round = go_round all f n ranks.0 firsts.0 all 0 (n ∷ []) next ranks.1 firsts.1 (omega arith)
          (stands_first f n ranks.0 firsts.0 ranks.1 firsts.1 there back) in
          inr (round.0, loop_is f n round.0 round.1 least)
      | inr never ↦
          let g : ℕ → ℕ = λ p. label_of ranks.0 (slice_index_or firsts.0 p None)
          (back_cases ranks.0 (slice_index_or firsts.0 p None)) (slice_index labels p) in
          let new : List ℕ = tabulate (length labels) g in
          let raised : (p : ℕ) → p < length labels → Raised ranks.0 (slice_index_or firsts.0 p None)
          (slice_index labels p) (slice_index new p) = λ p l.
          subst (λ k. Raised ranks.0 (slice_index_or firsts.0 p None) (slice_index labels p) k)
          (sym (tab_at (length labels) g p 0 l))
          (label_raised ranks.0 (slice_index_or firsts.0 p None)
          (back_cases ranks.0 (slice_index_or firsts.0 p None)) (slice_index labels p)) in
          tried left (n + 1) f few new (omega (arith, e))
          (rise_more f n ranks.0 firsts.0 labels new ranks.1 firsts.1 never raised (tab_length (length labels) g) r)
          (least_more f n ranks.0 firsts.0 ranks.1 firsts.1 never least)
    ]

pub exists : ExistenceLaw
exists f w =
    let m : ℕ = length f.driven in
    let zeros : List ℕ = tabulate m (λ p. 0) in
    let long : length zeros ≡ m = tab_length m (λ p. 0) in
    let none : (p : ℕ) → slice_index zeros p ≡ 0 = λ p. elim (cases_lt p m) [
      | inl l ↦ tab_at m (λ k. 0) p 0 l
      | inr past ↦ get_or_past zeros p 0 (omega (arith, past, long))
    ] in
    tried m 0 f w.numbered.driven zeros (omega arith) (record {
      count = long;
      few = λ p. (let a = none p in omega (arith, a));
      each = λ p q h. (let a = none p in let b = none q in omega (arith, a, b));
      higher = λ p q l h. absurd (omega (arith, l));
    }) (λ p n h. omega arith)
