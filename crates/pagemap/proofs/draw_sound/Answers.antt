-- `pagemap::draw_sound` meets its contract. Assumes nothing.
use native.Mathlib.Omega.{arith}
use Rattle.records.proofs.AdmitLaws.{admitted}
use Rattle.text.proofs.TextLaws.{appends_length}
use Rattle.pagemap.proofs.DrawLaws.{room_whole, draw_made}
use Rattle.pagemap.proofs.draw_sound.Goals as goal

pub put_head-i-requires : goal.put_head-i-requires
put_head-i-requires c =
    let s = (admitted _ _ c.args.pool.now.sound).shape in (omega (arith, room_whole _ _ c.requires), s.few)

pub put_pages-j-requires : goal.put_pages-j-requires
put_pages-j-requires c =
    omega (arith, room_whole _ _ c.requires, c.put_head-i.ensures.room, appends_length c.put_head-i.ensures.text)

pub put_foot-k-requires : goal.put_foot-k-requires
put_foot-k-requires c =
    let s = (admitted _ _ c.args.pool.now.sound).shape in
    (omega (arith, room_whole _ _ c.requires, c.put_head-i.ensures.room, appends_length c.put_head-i.ensures.text, c.put_pages-j.ensures.room, appends_length c.put_pages-j.ensures.text), s.few)

pub returns : goal.returns
returns c =
    let r = room_whole _ _ c.requires in
    record {
      drawn = draw_made _ _ _ c.put_head-i.ensures.text c.put_pages-j.ensures.text c.totals_sound-t.ensures c.put_foot-k.ensures.text;
      within = omega (arith, r, c.put_head-i.ensures.room, appends_length c.put_head-i.ensures.text, c.put_pages-j.ensures.room, appends_length c.put_pages-j.ensures.text, c.put_foot-k.ensures.room, appends_length c.put_foot-k.ensures.text);
    }
