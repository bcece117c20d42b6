-- From what the writers leave to what a call promises. Assumes nothing.
use Prim.Native.Nat.{ℕ, ◌+◌}
use mathlib.Core.Bool.{Bool, true, false}
use mathlib.Core.List.{List, [], ◌++◌, append-nil, append_assoc}
use mathlib.Core.Path.{◌≡◌, refl, sym, ap, ◌∙◌}
use native.Mathlib.Omega.{arith}
use native.Mathlib.Nat.{zero-add}
use lib.ListN.{length, length-append}
use borrow.Author.Tests.{eq-eqb, ne_eqb}
use Rattle.xdr.specs.Choose.{choose}
use Rattle.xdr.specs.Xdr.{word, overlay}
use Rattle.xdr.proofs.Laws.{more, overlay_none}
use Rattle.xdr_opaque.specs.Put.{Put}
use Rattle.wire_frame.specs.Messages.{row_of}
use Rattle.wire_frame.specs.declared.Row.{Row}
use Rattle.wire_frame.proofs.Laws.{around_small}
use Rattle.wire_replies.specs.declared.Reply.{Reply}
use Rattle.wire_replies.specs.declared.Reply.TheVariants as Reply
use Rattle.wire_replies.specs.Fit.{Sendable}
use Rattle.wire_replies.specs.declared.Notice.{Notice}
use Rattle.wire_replies.specs.Replies.{reply_bytes, notice_bytes}
use Rattle.rules_parts.specs.declared.types.Session.{Session}
use Rattle.rules_parts.specs.Parts.{after_message}
use Rattle.rules.specs.Answer.{held, Answered, silent, replying, refused_in, noticed}
use Rattle.rules_parts.specs.declared.types.Answer.{Answer}
use Rattle.call_sending.specs.Call.{CallTold}

-- a reply
pub finished : (r out out' : List ℕ) (time m e : ℕ) (reply : Reply) (seen : List ℕ) (next after : Session) (n : ℕ)
    → m ≡ word r 16 → e ≡ word r 4 → Put 0 (reply_bytes next.sequence time m e reply seen) out n out' → after ≡ after_message next false
    → (image variables : List ℕ)
    → CallTold (replying r time reply seen (held next image variables)) (record { code = 0; len = n; session = after }) image variables out out'
finished r out out' time m e reply seen next after n hm he put ha image variables =
    let b : List ℕ = reply_bytes next.sequence time (word r 16) (word r 4) reply seen in
    let p : Put 0 b out n out' = rw (hm, he) at put in
    record {
      code = refl;
      len = p.end ∙ zero-add (length b) ∙ ap length (sym (append-nil b));
      next = ha;
      image = refl;
      variables = refl;
      output = p.wrote ∙ ap (λ (k : List ℕ). overlay 0 k out) (sym (append-nil b));
    }

-- a refusal, by the row that was found for the record's message
pub refused_sends : (m : ℕ) {row : Row} → row ≡ row_of m → (e : ℕ) → Sendable (Reply.Refused row.before e row.after) []
unfolding Sendable
refused_sends m hr e = rw hr (around_small m)

pub refused_as : (r : List ℕ) (m e time : ℕ) (row : Row) (s : Session) (image variables : List ℕ) (v : Answer) (l l' : List ℕ)
    → m ≡ word r 16 → row ≡ row_of m
    → CallTold (replying r time (Reply.Refused row.before e row.after) [] (held s image variables)) v image variables l l'
    → CallTold (replying r time (refused_in r e) [] (held s image variables)) v image variables l l'
refused_as r m e time row s image variables v l l' hm hr c = rw (hr, hm) at c

-- no notice
pub not_noticed : (time why : ℕ) (n : Notice) (a : Answered) (r : Answer) (image variables l l' : List ℕ) → why ≡ 0
    → CallTold a r image variables l l' → CallTold (noticed time why n a) r image variables l l'
unfolding noticed choose
not_noticed time why n a r image variables l l' z t = rw (eq-eqb why 0 z) t

-- a notice behind what was sent
pub also_noticed : (time why : ℕ) (n : Notice) (a : Answered) (r : Answer) (image variables l l₁ l₂ : List ℕ) (k : ℕ) (after : Session)
    → (why ≡ 0 → ⊥) → CallTold a r image variables l l₁ → Put r.len (notice_bytes r.session.sequence time n) l₁ k l₂
    → after ≡ after_message r.session r.session.first
    → CallTold (noticed time why n a) (record { code = r.code; len = k; session = after }) image variables l l₂
unfolding noticed choose
also_noticed time why n a r image variables l l₁ l₂ k after z t put ha =
    let b : List ℕ = notice_bytes a.next.session.sequence time n in
    let p : Put r.len b l₁ k l₂ = rw t.next at put in
    let h : length (a.reply ++ (a.notices ++ b)) ≡ length (a.reply ++ a.notices) + length b = simp length-append (omega arith) in
    let e = p.end in
    let f = t.len in
    let at : 0 + length (a.reply ++ a.notices) ≡ r.len = omega arith in
    rw (ne_eqb why 0 z)
    (record {
      code = t.code;
      len = omega arith;
      next = ha ∙ ap (λ (s : Session). after_message s s.first) t.next;
      image = t.image;
      variables = t.variables;
      output = more 0 r.len (a.reply ++ a.notices) b l l₁ l₂ t.output p.wrote at ∙ ap (λ (x : List ℕ). overlay 0 x l) (append_assoc a.reply a.notices b);
    })

-- the same session, whatever it is made of
pub same_reply : (r : List ℕ) (time : ℕ) (seen image variables : List ℕ) (p q : Reply) (s t : Session) (v : Answer)
    (l l' : List ℕ) → p ≡ q → s ≡ t
    → CallTold (replying r time p seen (held s image variables)) v image variables l l'
    → CallTold (replying r time q seen (held t image variables)) v image variables l l'
same_reply r time seen image variables p q s t v l l' e f h = rw (e, f) at h

-- nothing sent: an output that is as it was
pub unsent : (s t : Session) (n : ℕ) (image variables l : List ℕ) → s ≡ t
    → CallTold (record { code = n; reply = []; notices = []; next = held t image variables })
    (record { code = n; len = 0; session = s }) image variables l l
unsent s t n image variables l e = record { code = refl; len = refl; next = e; image = refl; variables = refl; output = overlay_none 0 l }

-- nothing sent, with the session that is meant
pub unsent_as : (s t : Session) (n : ℕ) (r : Answer) (image variables l : List ℕ) → s ≡ t
    → CallTold (silent n (held s image variables)) r image variables l l → CallTold (silent n (held t image variables)) r image variables l l
unsent_as s t n r image variables l e c = rw e at c

-- a notice alone, at the start of an output
pub announced : (b : List ℕ) (s t : Session) (n : ℕ) (l l' : List ℕ) → Put 0 b l n l' → s ≡ t
    → CallTold (record { code = 0; reply = []; notices = b; next = held t [] [] }) (record { code = 0; len = n; session = s }) [] [] l l'
announced b s t n l l' p e =
    record { code = refl; len = p.end ∙ zero-add (length b); next = e; image = refl; variables = refl; output = p.wrote }

-- ---- the chain of a call
pub call_if : {b : Bool} {x : Answered} (y : Answered) {r : Answer} {image variables l l' : List ℕ} → b ≡ true
    → CallTold x r image variables l l' → CallTold (choose b x y) r image variables l l'
unfolding choose
call_if y h t = rw h t

pub call_else : {b : Bool} (x : Answered) {y : Answered} {r : Answer} {image variables l l' : List ℕ} → b ≡ false
    → CallTold y r image variables l l' → CallTold (choose b x y) r image variables l l'
unfolding choose
call_else x h t = rw h t
