-- A reader of the waveform's lines knows each signal's value at each time: the value that was last written for it.
use Rattle.std.proofs.Common.{◌≡◌, ◌≢◌, ℕ, zero, suc, ◌<◌, ◌≤◌, ◌+◌, ◌*◌, Bool, true, false, if◌then◌else◌, List, [], ◌∷◌, ◌++◌, length, refl, sym, ap, ◌∙◌, append_assoc, arith}
use Rattle.std.specs.Prelude.{Option, Some, None, nat_lt, ◌==◌, slice_get, slice_index_or, ◌||◌}
use Rattle.std.proofs.lemmas.Bool.Decides.{nat_tests}
use Rattle.design_names.specs.Variables.{Variable}
use Rattle.waveform.specs.Vcd.{Line, time, value, dumpvars, end, all_values, changes, edges, has_clock, rise, risen, later, window_lines}
use Rattle.waveform.specs.Reader.{read_at, AreFull, moment, seen}

-- ---- one line

passes : (number t x : ℕ) (ls : List Line) (known : Option ℕ) → x ≤ t → read_at number t (time x ∷ ls) known ≡ read_at number t ls known
passes number t x ls known h = let e : nat_lt t x ≡ false = grind (arith, nat_tests) in ap (λ b. if b then known else read_at number t ls known) e

stops : (number t x : ℕ) (ls : List Line) (known : Option ℕ) → t < x → read_at number t (time x ∷ ls) known ≡ known
stops number t x ls known h = let e : nat_lt t x ≡ true = grind (arith, nat_tests) in ap (λ b. if b then known else read_at number t ls known) e

hits : (number t w n v : ℕ) (ls : List Line) (known : Option ℕ) → n ≡ number → read_at number t (value w n v ∷ ls) known ≡ read_at number t ls (Some v)
hits number t w n v ls known h = let e : (n == number) ≡ true = grind (arith, nat_tests) in ap (λ b. read_at number t ls (if b then Some v else known)) e

misses : (number t w n v : ℕ) (ls : List Line) (known : Option ℕ) → n ≢ number → read_at number t (value w n v ∷ ls) known ≡ read_at number t ls known
misses number t w n v ls known h = let e : (n == number) ≡ false = grind (arith, nat_tests) in ap (λ b. read_at number t ls (if b then Some v else known)) e

-- ---- lines of variables with greater numbers

all_skip : (variables : List Variable) (vs : List ℕ) (n number t : ℕ) (rest : List Line) (known : Option ℕ) → number < n
    → read_at number t (all_values n variables vs ++ rest) known ≡ read_at number t rest known
all_skip [] vs n number t rest known h = refl
all_skip (s ∷ variables) [] n number t rest known h = refl
all_skip (s ∷ variables) (v ∷ vs) n number t rest known h = misses number t s.width n v (all_values (n + 1) variables vs ++ rest) known (λ e. absurd (omega arith)) ∙ all_skip variables vs (n + 1) number t rest known (omega arith)

-- a change, or none, in front of other lines
change_skip : (b : Bool) (w n number t v : ℕ) (ls rest : List Line) (known : Option ℕ) → number < n
    → read_at number t ((if b then ls else value w n v ∷ ls) ++ rest) known ≡ read_at number t (ls ++ rest) known
change_skip true w n number t v ls rest known h = refl
change_skip false w n number t v ls rest known h = misses number t w n v (ls ++ rest) known (λ e. absurd (omega arith))

changes_skip : (variables : List Variable) (olds vs : List ℕ) (n number t : ℕ) (rest : List Line) (known : Option ℕ) → number < n
    → read_at number t (changes n variables olds vs ++ rest) known ≡ read_at number t rest known
changes_skip [] olds vs n number t rest known h = refl
changes_skip (s ∷ variables) [] vs n number t rest known h = refl
changes_skip (s ∷ variables) (old ∷ olds) [] n number t rest known h = refl
changes_skip (s ∷ variables) (old ∷ olds) (v ∷ vs) n number t rest known h =
    change_skip (old == v) s.width n number t v (changes (n + 1) variables olds vs) rest known h ∙ changes_skip variables olds vs (n + 1) number t rest known (omega arith)

edge_skip : (b : Bool) (w n number t : ℕ) (ls rest : List Line) (known : Option ℕ) → number < n
    → read_at number t ((if b then value w n 1 ∷ ls else ls) ++ rest) known ≡ read_at number t (ls ++ rest) known
edge_skip true w n number t ls rest known h = misses number t w n 1 (ls ++ rest) known (λ e. absurd (omega arith))
edge_skip false w n number t ls rest known h = refl

edges_skip : (variables : List Variable) (n number t : ℕ) (rest : List Line) (known : Option ℕ) → number < n
    → read_at number t (edges n variables ++ rest) known ≡ read_at number t rest known
edges_skip [] n number t rest known h = refl
edges_skip (s ∷ variables) n number t rest known h =
    edge_skip s.clock s.width n number t (edges (n + 1) variables) rest known h ∙ edges_skip variables (n + 1) number t rest known (omega arith)

-- ---- what the lines of one moment tell of a signal, k places behind the first

all_read : (variables : List Variable) (vs : List ℕ) (n k number t : ℕ) (rest : List Line) (known : Option ℕ) → number ≡ n + k → length vs ≡ length variables → k < length variables
    → read_at number t (all_values n variables vs ++ rest) known ≡ read_at number t rest (slice_get vs k)
all_read [] vs n k number t rest known e l h = absurd (omega arith)
all_read (s ∷ variables) [] n k number t rest known e l h = absurd (omega arith)
all_read (s ∷ variables) (v ∷ vs) n zero number t rest known e l h =
    hits number t s.width n v (all_values (n + 1) variables vs ++ rest) known (omega arith) ∙ all_skip variables vs (n + 1) number t rest (Some v) (omega arith)
all_read (s ∷ variables) (v ∷ vs) n (suc k) number t rest known e l h =
    misses number t s.width n v (all_values (n + 1) variables vs ++ rest) known (λ x. absurd (omega arith)) ∙ all_read variables vs (n + 1) k number t rest known (omega arith) (omega arith) (omega arith)

change_read : (b : Bool) (w n number t old v : ℕ) (ls rest : List Line) → n ≡ number → (old == v) ≡ b
    → read_at number t ((if b then ls else value w n v ∷ ls) ++ rest) (Some old) ≡ read_at number t (ls ++ rest) (Some v)
change_read true w n number t old v ls rest h e = let same : old ≡ v = grind (arith, nat_tests) in ap (λ (x : ℕ). read_at number t (ls ++ rest) (Some x)) same
change_read false w n number t old v ls rest h e = hits number t w n v (ls ++ rest) (Some old) h

change_pass : (b : Bool) (w n number t v : ℕ) (ls rest : List Line) (known : Option ℕ) → n ≢ number
    → read_at number t ((if b then ls else value w n v ∷ ls) ++ rest) known ≡ read_at number t (ls ++ rest) known
change_pass true w n number t v ls rest known h = refl
change_pass false w n number t v ls rest known h = misses number t w n v (ls ++ rest) known h

changes_read : (variables : List Variable) (olds vs : List ℕ) (n k number t : ℕ) (rest : List Line) → number ≡ n + k → length olds ≡ length variables → length vs ≡ length variables
    → k < length variables → read_at number t (changes n variables olds vs ++ rest) (slice_get olds k) ≡ read_at number t rest (slice_get vs k)
changes_read [] olds vs n k number t rest e m l h = absurd (omega arith)
changes_read (s ∷ variables) [] vs n k number t rest e m l h = absurd (omega arith)
changes_read (s ∷ variables) (old ∷ olds) [] n k number t rest e m l h = absurd (omega arith)
changes_read (s ∷ variables) (old ∷ olds) (v ∷ vs) n zero number t rest e m l h =
    change_read (old == v) s.width n number t old v (changes (n + 1) variables olds vs) rest (omega arith) refl ∙ changes_skip variables olds vs (n + 1) number t rest (Some v) (omega arith)
changes_read (s ∷ variables) (old ∷ olds) (v ∷ vs) n (suc k) number t rest e m l h =
    change_pass (old == v) s.width n number t v (changes (n + 1) variables olds vs) rest (slice_get olds k) (λ x. absurd (omega arith))
    ∙ changes_read variables olds vs (n + 1) k number t rest (omega arith) (omega arith) (omega arith) (omega arith)

edge_read : (b : Bool) (w n number t v : ℕ) (ls rest : List Line) → n ≡ number
    → read_at number t ((if b then value w n 1 ∷ ls else ls) ++ rest) (Some v) ≡ read_at number t (ls ++ rest) (Some (if b then 1 else v))
edge_read true w n number t v ls rest h = hits number t w n 1 (ls ++ rest) (Some v) h
edge_read false w n number t v ls rest h = refl

edge_pass : (b : Bool) (w n number t : ℕ) (ls rest : List Line) (known : Option ℕ) → n ≢ number
    → read_at number t ((if b then value w n 1 ∷ ls else ls) ++ rest) known ≡ read_at number t (ls ++ rest) known
edge_pass true w n number t ls rest known h = misses number t w n 1 (ls ++ rest) known h
edge_pass false w n number t ls rest known h = refl

edges_read : (variables : List Variable) (vs : List ℕ) (n k number t : ℕ) (rest : List Line) → number ≡ n + k → length vs ≡ length variables → k < length variables
    → read_at number t (edges n variables ++ rest) (slice_get vs k) ≡ read_at number t rest (slice_get (risen variables vs) k)
edges_read [] vs n k number t rest e l h = absurd (omega arith)
edges_read (s ∷ variables) [] n k number t rest e l h = absurd (omega arith)
edges_read (s ∷ variables) (v ∷ vs) n zero number t rest e l h =
    edge_read s.clock s.width n number t v (edges (n + 1) variables) rest (omega arith) ∙ edges_skip variables (n + 1) number t rest (Some (if s.clock then 1 else v)) (omega arith)
edges_read (s ∷ variables) (v ∷ vs) n (suc k) number t rest e l h =
    edge_pass s.clock s.width n number t (edges (n + 1) variables) rest (slice_get vs k) (λ x. absurd (omega arith))
    ∙ edges_read variables vs (n + 1) k number t rest (omega arith) (omega arith) (omega arith)

-- without a clock nothing rises
risen_head : (b : Bool) (v : ℕ) (any : Bool) → (b || any) ≡ false → ((if b then 1 else v) ≡ v) × (any ≡ false)
risen_head true v any e = absurd cc
risen_head false v any e = (refl, e)

risen_same : (variables : List Variable) (vs : List ℕ) → has_clock variables ≡ false → length vs ≡ length variables → risen variables vs ≡ vs
risen_same [] [] e l = refl
risen_same [] (v ∷ vs) e l = absurd (omega arith)
risen_same (s ∷ variables) [] e l = refl
risen_same (s ∷ variables) (v ∷ vs) e l = let h = risen_head s.clock v (has_clock variables) e in
    ap (λ (x : ℕ). x ∷ risen variables vs) h.0 ∙ ap (λ (xs : List ℕ). v ∷ xs) (risen_same variables vs h.1 (omega arith))

length-risen : (variables : List Variable) (vs : List ℕ) → length vs ≡ length variables → length (risen variables vs) ≡ length variables
length-risen [] [] l = refl
length-risen [] (v ∷ vs) l = absurd (omega arith)
length-risen (s ∷ variables) [] l = absurd (omega arith)
length-risen (s ∷ variables) (v ∷ vs) l = omega (arith, length-risen variables vs (omega arith))

-- behind the rise, at a later time
rise_read_by : (b : Bool) (variables : List Variable) (vs : List ℕ) (cycle k t : ℕ) (rest : List Line) → has_clock variables ≡ b → 2 * cycle + 1 ≤ t → length vs ≡ length variables → k < length variables
    → read_at k t ((if b then time (2 * cycle + 1) ∷ edges 0 variables else []) ++ rest) (slice_get vs k) ≡ read_at k t rest (slice_get (risen variables vs) k)
rise_read_by true variables vs cycle k t rest e h l i = passes k t (2 * cycle + 1) (edges 0 variables ++ rest) (slice_get vs k) h ∙ edges_read variables vs 0 k k t rest (omega arith) l i
rise_read_by false variables vs cycle k t rest e h l i = ap (λ (xs : List ℕ). read_at k t rest (slice_get xs k)) (sym (risen_same variables vs e l))

-- ---- the cycles

-- the lines of a later cycle, and of the first, in front of those behind it
later_cons : (variables : List Variable) (cycle : ℕ) (last vs : List ℕ) (vals : List (List ℕ))
    → later variables cycle last (vs ∷ vals) ≡ time (2 * cycle) ∷ (changes 0 variables (risen variables last) vs ++ (rise variables cycle ++ later variables (cycle + 1) vs vals))
later_cons variables cycle last vs vals =
    ap (λ (ls : List Line). time (2 * cycle) ∷ ls) (append_assoc (changes 0 variables (risen variables last) vs) (rise variables cycle) (later variables (cycle + 1) vs vals))

window_cons : (variables : List Variable) (first : ℕ) (vs : List ℕ) (vals : List (List ℕ))
    → window_lines variables first (vs ∷ vals) ≡ time (2 * first) ∷ dumpvars ∷ (all_values 0 variables vs ++ (end ∷ (rise variables first ++ later variables (first + 1) vs vals)))
window_cons variables first vs vals =
    ap (λ (ls : List Line). time (2 * first) ∷ dumpvars ∷ ls) (append_assoc (all_values 0 variables vs) (end ∷ rise variables first) (later variables (first + 1) vs vals))

-- lines of later cycles
later_stops : (variables : List Variable) (cycle : ℕ) (last : List ℕ) (vals : List (List ℕ)) (k t : ℕ) (known : Option ℕ) → t < 2 * cycle → read_at k t (later variables cycle last vals) known ≡ known
later_stops variables cycle last [] k t known h = refl
later_stops variables cycle last (vs ∷ vals) k t known h =
    stops k t (2 * cycle) ((changes 0 variables (risen variables last) vs ++ rise variables cycle) ++ later variables (cycle + 1) vs vals) known h

rise_stops_by : (b : Bool) (variables : List Variable) (cycle : ℕ) (vs : List ℕ) (vals : List (List ℕ)) (k t : ℕ) (known : Option ℕ) → t < 2 * cycle + 1
    → read_at k t ((if b then time (2 * cycle + 1) ∷ edges 0 variables else []) ++ later variables (cycle + 1) vs vals) known ≡ known
rise_stops_by true variables cycle vs vals k t known h = stops k t (2 * cycle + 1) (edges 0 variables ++ later variables (cycle + 1) vs vals) known h
rise_stops_by false variables cycle vs vals k t known h = later_stops variables (cycle + 1) vs vals k t known (omega arith)

-- behind the values of a cycle, at its own two times
here_read : (edge : Bool) (variables : List Variable) (cycle : ℕ) (vs : List ℕ) (vals : List (List ℕ)) (k : ℕ) → length vs ≡ length variables → k < length variables
    → read_at k (moment edge cycle) (rise variables cycle ++ later variables (cycle + 1) vs vals) (slice_get vs k) ≡ slice_get (seen edge variables vs) k
here_read false variables cycle vs vals k l i = rise_stops_by (has_clock variables) variables cycle vs vals k (2 * cycle) (slice_get vs k) (omega arith)
here_read true variables cycle vs vals k l i =
    rise_read_by (has_clock variables) variables vs cycle k (2 * cycle + 1) (later variables (cycle + 1) vs vals) refl (omega arith) l i
    ∙ later_stops variables (cycle + 1) vs vals k (2 * cycle + 1) (slice_get (risen variables vs) k) (omega arith)

before_edge : (edge : Bool) (cycle i : ℕ) → 2 * cycle + 1 ≤ moment edge (cycle + 1 + i)
before_edge false cycle i = omega arith
before_edge true cycle i = omega arith

at_cycle : (edge : Bool) (cycle i : ℕ) → 2 * cycle ≤ moment edge (cycle + i)
at_cycle false cycle i = omega arith
at_cycle true cycle i = omega arith

later_read : (edge : Bool) (variables : List Variable) (vals : List (List ℕ)) (cycle i k : ℕ) (last : List ℕ) → AreFull variables vals → length last ≡ length variables → i < length vals → k < length variables
    → read_at k (moment edge (cycle + i)) (later variables cycle last vals) (slice_get (risen variables last) k) ≡ slice_get (seen edge variables (slice_index_or vals i [])) k
later_read edge variables [] cycle i k last f l h j = absurd (omega arith)
later_read edge variables (vs ∷ vals) cycle zero k last f l h j =
    ap (λ (ls : List Line). read_at k (moment edge (cycle + 0)) ls (slice_get (risen variables last) k)) (later_cons variables cycle last vs vals)
    ∙ passes k (moment edge (cycle + 0)) (2 * cycle) (changes 0 variables (risen variables last) vs ++ (rise variables cycle ++ later variables (cycle + 1) vs vals)) (slice_get (risen variables last) k) (at_cycle edge cycle 0)
    ∙ changes_read variables (risen variables last) vs 0 k k (moment edge (cycle + 0)) (rise variables cycle ++ later variables (cycle + 1) vs vals) (omega arith) (length-risen variables last l) f.0 j
    ∙ (let e : cycle + 0 ≡ cycle = omega arith in rw e (here_read edge variables cycle vs vals k f.0 j))
later_read edge variables (vs ∷ vals) cycle (suc i) k last f l h j =
    ap (λ (ls : List Line). read_at k (moment edge (cycle + suc i)) ls (slice_get (risen variables last) k)) (later_cons variables cycle last vs vals)
    ∙ passes k (moment edge (cycle + suc i)) (2 * cycle) (changes 0 variables (risen variables last) vs ++ (rise variables cycle ++ later variables (cycle + 1) vs vals)) (slice_get (risen variables last) k) (at_cycle edge cycle (suc i))
    ∙ changes_read variables (risen variables last) vs 0 k k (moment edge (cycle + suc i)) (rise variables cycle ++ later variables (cycle + 1) vs vals) (omega arith) (length-risen variables last l) f.0 j
    ∙ (let e : cycle + suc i ≡ cycle + 1 + i = omega arith in
    rw e (rise_read_by (has_clock variables) variables vs cycle k (moment edge (cycle + 1 + i)) (later variables (cycle + 1) vs vals) refl (before_edge edge cycle i) f.0 j
    ∙ later_read edge variables vals (cycle + 1) i k vs f.1 f.0 (omega arith) j))

-- a reader who starts with nothing knows, at each of the two times of each cycle of the window, what each signal shows
pub recovers : (edge : Bool) (variables : List Variable) (first : ℕ) (vals : List (List ℕ)) (i k : ℕ) → AreFull variables vals → i < length vals → k < length variables
    → read_at k (moment edge (first + i)) (window_lines variables first vals) None ≡ slice_get (seen edge variables (slice_index_or vals i [])) k
recovers edge variables first [] i k f h j = absurd (omega arith)
recovers edge variables first (vs ∷ vals) zero k f h j =
    ap (λ (ls : List Line). read_at k (moment edge (first + 0)) ls None) (window_cons variables first vs vals)
    ∙ passes k (moment edge (first + 0)) (2 * first) (dumpvars ∷ (all_values 0 variables vs ++ (end ∷ (rise variables first ++ later variables (first + 1) vs vals)))) None (at_cycle edge first 0)
    ∙ all_read variables vs 0 k k (moment edge (first + 0)) (end ∷ (rise variables first ++ later variables (first + 1) vs vals)) None (omega arith) f.0 j
    ∙ (let e : first + 0 ≡ first = omega arith in rw e (here_read edge variables first vs vals k f.0 j))
recovers edge variables first (vs ∷ vals) (suc i) k f h j =
    ap (λ (ls : List Line). read_at k (moment edge (first + suc i)) ls None) (window_cons variables first vs vals)
    ∙ passes k (moment edge (first + suc i)) (2 * first) (dumpvars ∷ (all_values 0 variables vs ++ (end ∷ (rise variables first ++ later variables (first + 1) vs vals)))) None (at_cycle edge first (suc i))
    ∙ all_read variables vs 0 k k (moment edge (first + suc i)) (end ∷ (rise variables first ++ later variables (first + 1) vs vals)) None (omega arith) f.0 j
    ∙ (let e : first + suc i ≡ first + 1 + i = omega arith in
    rw e (rise_read_by (has_clock variables) variables vs first k (moment edge (first + 1 + i)) (later variables (first + 1) vs vals) refl (before_edge edge first i) f.0 j
    ∙ later_read edge variables vals (first + 1) i k vs f.1 f.0 (omega arith) j))
