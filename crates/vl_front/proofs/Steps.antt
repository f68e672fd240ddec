-- From what the readers of tokens and trees answer to what stands of the text.
use Rattle.std.proofs.Common.{◌≡◌, ◌-◌, ◌<◌, ◌≤◌, ℕ, zero, suc, true, false, List, [], ◌∷◌, length, map, get_or, arith, Ok, Err, inl, inr, refl, sym, ap, subst, ◌∙◌}
use Rattle.std.specs.Prelude.{Some, min, slice_get}
use Rattle.std.specs.Option.{option_map}
use Rattle.std.proofs.lemmas.List.{length-map}
use Rattle.std.proofs.lemmas.Option.{slice_get-map}
use Rattle.vl_read.specs.declared.fault.SynFault as source
use Rattle.vl_read.specs.declared.fault.SynFault.TheVariants as refused_source
use Rattle.vl_source.specs.Parsed as parsed
use Rattle.vl_tree.specs.Token.{Tokens, coded}
use Rattle.vl_tree.specs.declared.token.Token as declared
use Rattle.vl_tree.specs.Tree.{Module}
use Rattle.vl_tree.specs.Grammar.{Derives}
use Rattle.vl_meaning.specs.Faults.{is_sound}
use Rattle.vl_module.specs.Reading.{IsRefused}
use Rattle.vl_module.specs.declared.SynFault.{SynFault}
use Rattle.vl_module.specs.declared.SynFault.TheVariants as tree
use Rattle.vl_front.specs.Spelled.{spelled}
use Rattle.vl_tree.specs.Fault.{HasFault, fault_of}
use Rattle.vl_tree.specs.declared.fault.StaticFault.{StaticFault}
use Rattle.vl_tree.specs.declared.fault.StaticFault.TheVariants as static
use Rattle.vl_pre.specs.Bytes.{Text}
use Rattle.vl_pre.specs.CleanText.{clean_text}
use Rattle.vl_lex.specs.Tokens.{tokens_of}
use Rattle.vl_front.specs.Spelled.{by_clean_text}
use Rattle.vl_front.specs.Calls.Faults.{of_static, of_source, of_tree}
use Rattle.vl_tree.specs.Syntax.{Source}
use Rattle.vl_tree.specs.Placed.{placed}
use Rattle.vl_tree.specs.Modules.{source_at}
use Rattle.vl_tree.specs.Derives.{IsSource}
use Rattle.vl_front.specs.FirstFault.{line_of, line_at}
use Rattle.vl_front.specs.Top.{Asked, is_topless, is_asked, HaveTop, HaveNoTop}
use Rattle.vl_front.specs.Reads.{Reads}
use Rattle.vl_front.specs.Calls.First.{IsSpellingFault, IsTreeFault}
use Rattle.vl_front.specs.OneModule.{IsOneModule, IsDesign, IsNoDesign}
use Rattle.vl_front.specs.declared.fault.DesignFault.{DesignFault}
use Rattle.vl_front.specs.declared.fault.DesignFault.TheVariants as f

-- a refusal of the tokens, with its line
pub source_first : (top : Asked) (ts : Tokens) (e : source.SynFault) → parsed.IsRefused ts e → IsTreeFault top ts (of_source ts e)
source_first top ts (refused_source.At n) h = (Some n, (n, inl (h, refl)))
source_first top ts (refused_source.Deep n) h = (Some n, (n, inr (h, refl)))
source_first top ts refused_source.Memory h = tt

-- the one source that the tokens are has no top
pub one_has_none : (top : Asked) (ts : Tokens) (s : Source) (line : ℕ) → IsSource (placed 0 ts) s → ((t : Source) → source_at t (placed 0 ts) [] → t ≡ s)
    → is_topless top s ≡ true → line ≡ line_at ts 0 → HaveNoTop top ts line
one_has_none top ts s line is only e l = ((s, is), λ t h. ap (is_topless top) (only t h.derives) ∙ e, l)

-- a fault of the clean text is the text's first
pub clean_first : (text : List ℕ) (e : StaticFault) → HasFault (clean_text text) (fault_of e) → IsSpellingFault (spelled text) (of_static e)
clean_first text (static.At phase place kind) h = (place.token, ap by_clean_text h)
clean_first text static.Memory h = tt

-- and so is one of the tokens, where the clean text has none
pub token_first : (text : List ℕ) (clean : Text) (e : StaticFault) → clean_text text ≡ Ok clean → HasFault (tokens_of clean) (fault_of e) → IsSpellingFault (spelled text) (of_static e)
token_first text clean (static.At phase place kind) c h = (place.token, ap by_clean_text c ∙ h)
token_first text clean static.Memory c h = tt

module _ (text : List ℕ) (top : Asked) (ts : Tokens) (is : spelled text ≡ Ok ts) where
  -- a text has one list of tokens, so its module derives from that
  derived : (m : Module) → IsOneModule text top m → Derives ts m
  derived m i =
      let e : i.tokens ≡ ts = let f = i.is_spelled in cc in
      subst (λ (x : Tokens). Derives x m) e i.derived

  -- why a text is refused whose tokens are no source with a top
  pub no_source : (e : DesignFault) → IsTreeFault top ts e → Reads text top (Err e)
  no_source (f.At phase line kind) h = (h.0, inr (ts, is, h.1))
  no_source (f.NoTop line) h = (ts, is, h)
  no_source f.NotYetBuilt h = absurd h
  no_source f.Memory h = tt

  -- where no module derives from the tokens, the text is no module's
  no_tree : HaveTop top ts → ((m : Module) → Derives ts m → ⊥) → IsNoDesign text top
  no_tree s none = record { tokens = ts; is_spelled = is; have_top = s; none = λ m i. none m (derived m i) }

  -- the same of the fault that says so
  pub refused : HaveTop top ts → (e : SynFault) → IsRefused ts e → Reads text top (Err (of_tree e))
  refused s tree.NoTree h = no_tree s h
  refused s tree.Memory h = tt

  module _ (src : HaveTop top ts) (m : Module) (only : (n : Module) → Derives ts n → n ≡ m) where
    -- where the one module that derives isn't the top that is asked for, the text is no module's
    pub not_asked : is_asked top m.name ≡ false → IsNoDesign text top
    not_asked s = record {
      tokens = ts;
      is_spelled = is;
      have_top = src;
      none = λ n i. let t : true ≡ false = sym i.is_top ∙ ap (λ x. is_asked top x.name) (only n (derived n i)) ∙ s in absurd cc;
    }

    -- where it has a static fault, neither
    pub unsound : false ≡ is_sound m → IsNoDesign text top
    unsound s = record {
      tokens = ts;
      is_spelled = is;
      have_top = src;
      none = λ n i. let t : true ≡ false = sym i.sound ∙ ap is_sound (only n (derived n i)) ∙ sym s in absurd cc;
    }

    -- else the text is that module's alone
    pub accepted : Derives ts m → is_asked top m.name ≡ true → is_sound m ≡ true → IsDesign text top m
    accepted d a s = record {
      here = record { tokens = ts; is_spelled = is; have_top = src; derived = d; is_top = a; sound = s };
      only = λ n i. only n (derived n i);
    }

-- ---- lines

read_some : (xs : List declared.Token) (m : ℕ) (t : declared.Token) → m < length xs → slice_get xs m ≡ Some (get_or xs m t)
read_some [] m t l = absurd (omega (arith, l))
read_some (x ∷ xs) zero t l = refl
read_some (x ∷ xs) (suc m) t l = read_some xs m t (omega (arith, l))

-- the line of the token that stands there
pub line_some : (xs : List declared.Token) (n m : ℕ) (t : declared.Token) → m < length xs → t ≡ get_or xs m t
    → m ≡ min n (length xs - 1) → t.line ≡ line_at (map coded xs) n
line_some xs n m t l e h =
    let k : min n (length (map coded xs) - 1) ≡ m = ap (λ k. min n (k - 1)) (length-map xs coded) ∙ sym h in
    let x : slice_get xs m ≡ Some t = read_some xs m t l ∙ ap Some (sym e) in
    sym (ap (λ k. line_of (slice_get (map coded xs) k)) k ∙ ap line_of (slice_get-map coded xs m ∙ ap (option_map coded) x))

-- or the first line
pub line_none : (xs : List declared.Token) (n m : ℕ) → length xs ≤ m → m ≡ min n (length xs - 1) → 1 ≡ line_at (map coded xs) n
line_none [] n m l h = refl
line_none (x ∷ xs) n m l h = absurd (omega (arith, l, h))
