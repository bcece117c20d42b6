-- Laws of the accounts: one account by where it stands, so many of them one by one, and who gets in. Assumes nothing.
use Prim.Native.Nat.{ℕ, zero, suc, ◌+◌, ◌-◌, ◌≤◌, ◌<◌}
use mathlib.Core.Bool.{Bool, true, false}
use mathlib.Core.List.{List, [], ◌∷◌}
use mathlib.Core.Path.{◌≡◌, refl, sym, ap, ◌∙◌}
use native.Mathlib.Omega.{arith}
use lib.Dec.{eqb, leb}
use lib.ListN.{length, take, drop}
use borrow.Author.Tests.{le-leb, lt-leb, leb-true, eq-eqb, ne_eqb}
use Rattle.std.specs.Prelude.{Option, Some, None, Result, Ok, Err, MatchOption, IsSome, ◌&&◌, ◌||◌}
use Rattle.std.specs.Result.{result_ok}
use Rattle.codes.specs.Codes.{text_auth, md5_auth, most_accounts, longest_password}
use Rattle.xdr.specs.Choose.{choose}
use Rattle.xdr.specs.Xdr.{word, same_bytes}
use Rattle.xdr_opaque.specs.Opaque.{word_at, opaque_at}
use Rattle.xdr_opaque.specs.declared.Opaque.{Opaque}
use Rattle.xdr_opaque.proofs.Laws.{word_short, word_missing, opaque_short}
use Rattle.md5_digest.specs.Login.{login_digest}
use Rattle.wire_accounts.specs.Accounts.{AccountEntry, Accounts, none, these, broken}
use Rattle.wire_accounts.specs.Accounts.{found, are_laid, entries_of, entries_in, Laid}
use Rattle.wire_accounts.specs.Accounts.{is_kind, with_password, with_id, account_at, with_account, and_then, accounts_from}
use Rattle.wire_accounts.specs.Accounts.{accounts_in, is_digestible, is_digest, md5_matches, any_of}
use Rattle.wire_accounts.specs.Entry.{number_of, KindOf, read_as}
use Rattle.wire_accounts.specs.declared.Account.{Account}
use Rattle.wire_accounts.specs.declared.Kind.{Kind}
use Rattle.wire_accounts.specs.declared.Kind.TheVariants.{Text, Md5}
use Rattle.wire_accounts.specs.declared.UnknownKind.{UnknownKind}

-- ---- one account
either : (t : Bool) → choose t none none ≡ none
unfolding choose
either true = refl
either false = refl

pub known : (k : Kind) → is_kind (number_of k) ≡ true
unfolding is_kind choose
known Text = refl
known Md5 = refl

pub unknown : (n : ℕ) → (n ≡ text_auth → ⊥) → (n ≡ md5_auth → ⊥) → is_kind n ≡ false
unfolding is_kind choose
unknown n t m = rw (ne_eqb n text_auth t, ne_eqb n md5_auth m)

module _ (b : List ℕ) (at : ℕ) where
  pub no_word : None ≡ word_at b at → account_at b at ≡ none
  unfolding account_at with_id
  no_word e =
      let h : length b < at + 4 = word_missing b at e in
      let f : None ≡ opaque_at b (at + 4) = opaque_short b (at + 4) (word_short b (at + 4) (omega arith)) in
      rw (← f) (either (is_kind (word b at)))

  pub no_id : None ≡ opaque_at b (at + 4) → account_at b at ≡ none
  unfolding account_at with_id
  no_id e = rw (← e) (either (is_kind (word b at)))

  pub no_password : (o : Opaque) → Some o ≡ opaque_at b (at + 4) → None ≡ opaque_at b o.next → account_at b at ≡ none
  unfolding account_at with_id with_password
  no_password o e f = rw (← e, ← f) (either (is_kind (word b at)))

  pub no_kind : (n : ℕ) → n ≡ word b at → is_kind n ≡ false → account_at b at ≡ none
  unfolding account_at choose
  no_kind n e h = let g : is_kind (word b at) ≡ false = rw e at h in rw g

  pub account_there : (k : Kind) (o o' : Opaque) → number_of k ≡ word b at → Some o ≡ opaque_at b (at + 4) → Some o' ≡ opaque_at b o.next
      → account_at b at ≡ found (record { kind = number_of k; id = take (o.start + o.len - o.start) (drop o.start b); password = take (o'.start + o'.len - o'.start) (drop o'.start b) }) o'.next
  unfolding account_at with_id with_password choose
  account_there k o o' e f g =
      let h : o.start + o.len - o.start ≡ o.len = omega arith in
      let h' : o'.start + o'.len - o'.start ≡ o'.len = omega arith in
      rw (h, h', ← e, known k, ← f, ← g)

-- its digest, by its length
module _ (p c d : List ℕ) where
  pub digest_empty : length p < 1 → false ≡ is_digest p c d
  unfolding is_digest is_digestible choose
  digest_empty h = rw (lt-leb 1 (length p) h)

  pub digest_long : longest_password < length p → false ≡ is_digest p c d
  unfolding is_digest is_digestible choose
  digest_long h = let k : 1 ≤ length p = omega arith in rw (le-leb 1 (length p) k, lt-leb (length p) longest_password h)

  pub digest_made : (w : List ℕ) (r : Bool) → 1 ≤ length p → length p ≤ longest_password
      → w ≡ login_digest p c → r ≡ same_bytes d w → r ≡ is_digest p c d
  unfolding is_digest is_digestible choose
  digest_made w r h k e f = f ∙ rw (le-leb 1 (length p) h, le-leb (length p) longest_password k, e)

-- ---- so many accounts
laid_prepend : (e : AccountEntry) (x : Accounts) → are_laid (with_account e x) ≡ are_laid x
unfolding are_laid with_account
laid_prepend e (these es) = refl
laid_prepend e broken = refl

entries_prepend : (e : AccountEntry) (x : Accounts) → are_laid x ≡ true → entries_of (with_account e x) ≡ e ∷ entries_of x
unfolding are_laid with_account entries_of
entries_prepend e (these es) h = refl
entries_prepend e broken h = cc

entries_broken : (x : Accounts) → are_laid x ≡ false → entries_of x ≡ []
unfolding are_laid entries_of
entries_broken (these es) h = cc
entries_broken broken h = refl

laid_if : (t : Bool) → are_laid (choose t (these []) broken) ≡ t
unfolding are_laid choose
laid_if true = refl
laid_if false = refl

entries_if : (t : Bool) → entries_of (choose t (these []) broken) ≡ []
unfolding entries_of choose
entries_if true = refl
entries_if false = refl

module _ (b : List ℕ) where
  -- the first of them, where there is none, and where there is one
  turn : (at n : ℕ) → 0 < n → accounts_from b n at ≡ and_then (account_at b at) (accounts_from b (n - 1))
  unfolding accounts_from
  turn at zero h = absurd (omega arith)
  turn at (suc n) h = let e : suc n - 1 ≡ n = omega arith in rw e

  pub laid_none : (at n : ℕ) → 0 < n → account_at b at ≡ none → are_laid (accounts_from b n at) ≡ false
  unfolding are_laid and_then
  laid_none at n h z = rw (turn at n h, z)

  module _ (at : ℕ) {x : ℕ} {e : AccountEntry} (r : account_at b at ≡ found e x) where
    first : (n : ℕ) → 0 < n → accounts_from b n at ≡ with_account e (accounts_from b (n - 1) x)
    unfolding and_then
    first n h = rw (turn at n h, r)

    pub laid_next : (n : ℕ) → 0 < n → are_laid (accounts_from b n at) ≡ are_laid (accounts_from b (n - 1) x)
    laid_next n h = ap are_laid (first n h) ∙ laid_prepend e (accounts_from b (n - 1) x)

  pub laid_end : (n at : ℕ) → n ≤ 0 → are_laid (accounts_from b n at) ≡ eqb at (length b)
  unfolding accounts_from
  laid_end n at h = let e : n ≡ 0 = omega arith in rw e (laid_if (eqb at (length b)))

  pub entries_end : (n at : ℕ) → n ≤ 0 → entries_of (accounts_from b n at) ≡ []
  unfolding accounts_from
  entries_end n at h = let e : n ≡ 0 = omega arith in rw e (entries_if (eqb at (length b)))

  -- the count
  pub laid_short : length b < 4 → are_laid (accounts_in b) ≡ false
  unfolding accounts_in are_laid choose
  laid_short h = rw (lt-leb 4 (length b) h)

  pub laid_many : (n : ℕ) → n ≡ word b 0 → 4 ≤ length b → most_accounts < n → are_laid (accounts_in b) ≡ false
  unfolding accounts_in are_laid choose
  laid_many n e h k = rw (le-leb 4 (length b) h, ← e, lt-leb n most_accounts k)

  pub laid_few : (n : ℕ) → n ≡ word b 0 → 4 ≤ length b → n ≤ most_accounts → accounts_in b ≡ accounts_from b n 4
  unfolding accounts_in choose
  laid_few n e h k = rw (le-leb 4 (length b) h, ← e, le-leb n most_accounts k)

-- ---- over all accounts
both : (x y : Bool) (a : Accounts) → are_laid (choose x (choose y a broken) broken) ≡ true → (x ≡ true) × (y ≡ true)
unfolding are_laid choose
both true true a e = (refl, refl)
both true false a e = cc
both false y a e = cc

pub counted : (b : List ℕ) → are_laid (accounts_in b) ≡ true → (4 ≤ length b) × (word b 0 ≤ most_accounts)
unfolding accounts_in
counted b h =
    let w = both (leb 4 (length b)) (leb (word b 0) most_accounts) (accounts_from b (word b 0) 4) h in
    (leb-true _ _ w.0, leb-true _ _ w.1)

pub none_in : (b : List ℕ) → are_laid (accounts_in b) ≡ false → entries_in b ≡ []
none_in b h = entries_broken (accounts_in b) h

module _ (b : List ℕ) (n : ℕ) (e : n ≡ word b 0) (h : are_laid (accounts_in b) ≡ true) where
  all_from : accounts_in b ≡ accounts_from b n 4
  all_from = let w = counted b h in laid_few b n e w.0 (omega (arith, e, w.1))

  pub laid_first : Laid b n 4
  laid_first = record { within = (counted b h).0; laid = sym (ap are_laid all_from) ∙ h }

  pub entries_first : entries_in b ≡ entries_of (accounts_from b n 4)
  entries_first = ap entries_of all_from

module _ {b : List ℕ} {n at : ℕ} (l : Laid b n at) (h : 0 < n) where
  pub laid_on : {e : AccountEntry} {x : ℕ} → account_at b at ≡ found e x → x ≤ length b → Laid b (n - 1) x
  laid_on r k = record { within = k; laid = sym (laid_next b at r n h) ∙ l.laid }

  pub entries_on : {e : AccountEntry} {x : ℕ} → account_at b at ≡ found e x → x ≤ length b
      → entries_of (accounts_from b n at) ≡ e ∷ entries_of (accounts_from b (n - 1) x)
  entries_on {e} {x} r k = ap entries_of (first b at r n h) ∙ entries_prepend e (accounts_from b (n - 1) x) (laid_on r k).laid

  -- the first account is there
  pub laid_there : account_at b at ≡ none → ⊥
  laid_there z = let f = laid_none b at n h z in let k : ◌≡◌ {A = Bool} true false = sym l.laid ∙ f in cc

-- what the code gave of the first account
module _ {b : List ℕ} {n at : ℕ} (l : Laid b n at) (h : 0 < n) where
  pub is_there : (r : Option (Account × ℕ)) → account_at b at ≡ read_as r → IsSome r
  is_there (Some p) e = refl
  is_there None e = absurd (laid_there l h e)

both_hold : (a b : Bool) → (a && b) ≡ choose a b false
unfolding choose
both_hold true b = refl
both_hold false b = refl

-- whom an entry lets in, by its kind
module _ (id c d : List ℕ) (e : AccountEntry) where
  pub text_shuts : e.kind ≡ text_auth → false ≡ md5_matches id c d e
  unfolding md5_matches choose
  text_shuts k = rw k

  pub md5_judges : (a b : Bool) → e.kind ≡ md5_auth → a ≡ same_bytes id e.id → b ≡ is_digest e.password c d → (a && b) ≡ md5_matches id c d e
  unfolding md5_matches choose
  md5_judges a b k f g = rw (eq-eqb e.kind md5_auth k, ← f, ← g) (both_hold a b)

-- ---- who gets in: whether an account before let in, or one of those to come does
on : (some t r : Bool) → choose some true (choose t true r) ≡ choose (some || t) true r
unfolding choose
on true t r = refl
on false t r = refl

end : (some : Bool) → choose some true false ≡ some
unfolding choose
end true = refl
end false = refl

module _ (p : AccountEntry → Bool) where
  pub shut : (b : List ℕ) → are_laid (accounts_in b) ≡ false → false ≡ any_of p (entries_in b)
  unfolding any_of
  shut b h = rw (none_in b h)

  -- among the entries es: of those before the rest, one let in or none did
  pub record Going (es : List AccountEntry) (some : Bool) (rest : List AccountEntry) : Type 0 where
    pub so_far : any_of p es ≡ choose some true (any_of p rest)

  pub going_first : {es rest : List AccountEntry} → es ≡ rest → Going es false rest
  unfolding choose
  going_first e = record { so_far = ap (any_of p) e }

  module _ {es rest others : List AccountEntry} {some : Bool} {e : AccountEntry} (g : Going es some rest) (r : rest ≡ e ∷ others) where
    pub going_on : (t : Bool) → t ≡ p e → Going es (some || t) others
    unfolding any_of
    going_on t k =
        record { so_far = g.so_far ∙ ap (λ (fs : List AccountEntry). choose some true (any_of p fs)) r ∙ rw (← k) (on some t (any_of p others)) }

  pub going_end : {es rest : List AccountEntry} {some : Bool} → Going es some rest → rest ≡ [] → some ≡ any_of p es
  unfolding any_of
  going_end {some = some} g h = sym (g.so_far ∙ ap (λ (fs : List AccountEntry). choose some true (any_of p fs)) h ∙ end some)

-- the kind that a number is read as, as an option
pub of_kind : (n : ℕ) (r : Result Kind UnknownKind) (o : Option Kind) → o ≡ result_ok r → KindOf n r
    → MatchOption o (is_kind n ≡ false) (λ k. number_of k ≡ n)
of_kind n (Ok k) o e h = rw e h
of_kind n (Err u) o e h = rw e h
