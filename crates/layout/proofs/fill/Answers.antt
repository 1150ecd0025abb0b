-- What the library's `fill` leaves is what the bytes, set one after another, leave.
use Rattle.std.proofs.Common.{◌≡◌, ◌+◌, ◌-◌, ◌≤◌, length, take, drop, replicate, append_assoc, length-drop, sym, ◌∙◌, arith}
use Rattle.std.proofs.lemmas.List.{length-replicate, length-take-le}
use Rattle.std.proofs.lemmas.List.Edits.{sets-eq, paste_all}
use Rattle.std.proofs.lemmas.Slice.{put_mid-paste}
use Rattle.layout.proofs.fill.Goals as goal

pub returns : goal.returns
returns c =
    let a = c.args in
    let t = a.t.now in
    let bytes = replicate a.n a.b in
    let k : a.from + a.n - a.from ≡ a.n = omega arith in
    let room : a.n ≤ length (drop a.from t) = simp length-drop (omega arith) in
    let all : length (take (a.from + a.n - a.from) (drop a.from t)) ≡ a.n = rw (k, length-take-le) in
    let e : c.fill.new.self ≡ bytes = rw all at (c.fill.ensures.after (λ y q. q)) in
    let long = length-replicate a.n a.b in
    put_mid-paste a.from _ t _ bytes a.n e (sym k) (sym long) ∙ paste_all t a.from bytes a.n (sym long)
    ∙ (rw (sets-eq bytes t a.from (rw long c.requires), append_assoc, long))
